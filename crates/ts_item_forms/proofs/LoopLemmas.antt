-- The items in an item, as they were read.
use Rattle.std.proofs.Common.{◌≡◌, ℕ, ◌*◌, ◌/◌, ◌^◌, ◌<◌, ◌≤◌, Bool, true, List, [], ◌∷◌, ◌++◌, length, take, drop, refl, sym, ap, ◌∙◌, arith, append_assoc, append-nil, length-append}
use Rattle.std.specs.Prelude.{Option, Some, None, option_to_list}
use Rattle.std.specs.List.{flat_map}
use Rattle.std.proofs.lemmas.List.{drop_all, take_all}
use Rattle.std.proofs.lemmas.Option.{same_Some}
use Rattle.ts_fields.specs.Bits.{bits, bits_of}
use Rattle.ts_fields.specs.Bodies.{Page, Holding, all_fit, held_by, items_exact, items_fit, items_shaped, page_exact, page_fits, page_shaped, read_after, read_items, read_loop, read_page, spell_loop, spell_page}
use Rattle.ts_fields.specs.Fitting.{are_bytes, fits, shaped}
use Rattle.ts_fields.specs.Layout.{Row, Held}
use Rattle.ts_fields.specs.Reading.{Fails, read_bytes, read_field, read_number, read_rows, ◌>>=◌}
use Rattle.ts_fields.specs.SoundRows.{are_exact}
use Rattle.ts_fields.specs.Spelling.{spell_rows}
use Rattle.ts_fields.specs.declared.reader.NotRead.{NotRead}
use Rattle.ts_fields.specs.declared.reader.NotRead.TheVariants as stops
use Rattle.ts_item_forms.specs.ItemForms.{count_before, read_inner, spell_inner}
use Rattle.ts_item_forms.proofs.StepLemmas.{then_some}

-- what the laws of the crates below say of numbers and bytes that were read
pub record Parts : Type 0 where
  pub number : (count value : ℕ) (from rest : List Bool) → read_number count from ≡ Some (value, rest) → (from ≡ bits count value ++ rest) × (value < 2 ^ count)
  pub bytes : (count : ℕ) (row : List ℕ) (from rest : List Bool) → read_bytes count from ≡ Some (row, rest) → (from ≡ bits_of row ++ rest) × (length row ≡ count) × (are_bytes row ≡ true)

-- what they say of all that was read
pub record Written : Type 0 where
  pub parts : Parts
  pub rows : (rs : List Row) (from : List Bool) (values : List Held) (rest : List Bool) → are_exact rs ≡ true → read_rows rs from ≡ Some (values, rest) → (from ≡ spell_rows rs values ++ rest) × (fits rs values ≡ true)
  pub lengths : (row : List ℕ) → length (bits_of row) ≡ 8 * length row
  pub page : (p : Page) (from : List Bool) (h : Holding) → page_exact p ≡ true → read_page p from ≡ Some h → (from ≡ spell_page p h) × (page_fits p h ≡ true)

-- a page of items alone
abbrev pub items_alone : List ℕ × List Row → Page
items_alone i = record { tag = 0; name = []; head = []; items = Some i; counted = None }

pub alone_reads : (i : List ℕ × List Row) (from : List Bool) (items : List (List Held))
    → read_items (length from) i.1 from ≡ Some items → read_page (items_alone i) from ≡ Some (record { head = []; items = items })
unfolding read_page read_after read_rows
alone_reads i from items is = rw is refl

then_ok : {A B : Type 0} (r : Option A) (f : A → B) (y : B) → ◌>>=◌ {B = B} r (λ x. Some (f x)) ≡ Some y
    → (x : A) × (r ≡ Some x) × (f x ≡ y)
then_ok (Some x) f y is = (x, refl, same_Some _ _ is)
then_ok None f y is = cc

none_then : {A B : Type 0} (r : Option A) (f : A → B) → ◌>>=◌ {B = B} r (λ x. Some (f x)) ≡ None → r ≡ None
none_then None f is = refl
none_then (Some x) f is = cc

-- the items that a page of items alone reads, whatever its name
pub items_alone_are : (name : List ℕ) (i : List ℕ × List Row) (from : List Bool) (h : Holding)
    → read_page (record { tag = 0; name = name; head = []; items = Some i; counted = None }) from ≡ Some h
    → read_items (length from) i.1 from ≡ Some h.items
unfolding read_page read_after read_rows
items_alone_are name i from h is =
    let it = then_ok (read_items (length from) i.1 from) (λ items. record { head = []; items = items }) h is in
    it.1 ∙ ap (λ (z : Holding). Some z.items) it.2

pub items_alone_fail : (stop : NotRead) (name : List ℕ) (i : List ℕ × List Row) (from : List Bool)
    → Fails stop (read_page (record { tag = 0; name = name; head = []; items = Some i; counted = None }) from)
    → Fails stop (read_items (length from) i.1 from)
unfolding read_page read_after read_rows
items_alone_fail stops.NoMemory name i from is = tt
items_alone_fail stops.Outside name i from is =
    none_then (read_items (length from) i.1 from) (λ items. record { head = []; items = items }) is

-- the bits of a page of counted items alone, whatever its name
pub loop_spelled : (name : List ℕ) (i : List ℕ × List Row) (h : Holding)
    → spell_page (record { tag = 0; name = name; head = []; items = Some i; counted = Some 0 }) h ≡ spell_loop i.1 h.items
unfolding spell_page spell_rows
loop_spelled name i h = append-nil (spell_loop i.1 h.items)

pub loop_shaped : (name : List ℕ) (i : List ℕ × List Row) (h : Holding) → items_shaped (Some i) h.items ≡ true
    → page_shaped (record { tag = 0; name = name; head = []; items = Some i; counted = Some 0 }) h ≡ true
unfolding shaped
loop_shaped name i h is = rw is refl

items_were : Written → (i : List ℕ × List Row) (from : List Bool) (items : List (List Held)) → are_exact i.1 ≡ true
    → read_items (length from) i.1 from ≡ Some items
    → (from ≡ flat_map (spell_rows i.1) items) × (all_fit i.1 items ≡ true)
unfolding spell_page spell_rows fits
items_were laws i from items exact is =
    laws.page (items_alone i) from (record { head = []; items = items }) exact (alone_reads i from items is)

loop_was : Written → (i : List ℕ × List Row) (from : List Bool) (x : List (List Held) × List Bool) → are_exact i.1 ≡ true
    → read_loop i.1 from ≡ Some x → (from ≡ spell_loop i.1 x.0 ++ x.1) × (all_fit i.1 x.0 ≡ true)
unfolding read_loop
loop_was laws i from x exact is =
    then_some (read_number 8 from) _ x is (λ count was later.
    then_some (read_bytes count.0 count.1) _ x later (λ row had last.
    then_some (read_items (length (bits_of row.0)) i.1 (bits_of row.0)) (λ items. Some (items, row.1)) x last (λ items got joins.
    let x_is : (items, row.1) ≡ x = same_Some _ _ joins in
    let first = laws.parts.number 8 count.0 from count.1 was in
    let second = laws.parts.bytes count.0 row.0 count.1 row.1 had in
    let third = items_were laws i (bits_of row.0) items exact got in
    let flat = flat_map (spell_rows i.1) items in
    let counted : length flat / 8 ≡ count.0 = omega (arith, ap length third.0, laws.lengths row.0, second.1) in
    rw (← x_is) (
      first.0 ∙ ap (λ l. bits 8 count.0 ++ l) (second.0 ∙ ap (λ l. l ++ row.1) third.0)
          ∙ ap (λ n. bits 8 n ++ (flat ++ row.1)) (sym counted) ∙ sym (append_assoc (bits 8 (length flat / 8)) flat row.1),
      third.1,
    ))))

pub inner_was : Written → (i : Option (List ℕ × List Row)) (from : List Bool) (x : List (List Held) × List Bool)
    → items_exact i ≡ true → read_inner i from ≡ Some x → (from ≡ spell_inner i x.0 ++ x.1) × (items_fit i x.0 ≡ true)
inner_was laws None from x exact is = let e : ([], from) ≡ x = same_Some _ _ is in rw (← e) (refl, refl)
inner_was laws (Some i) from x exact is = loop_was laws i from x exact is

-- an item's page writes its fields, and then the items in it
pub item_spelled : (name : List ℕ) (inner : Option (List ℕ × List Row)) (rs : List Row) (h : Holding)
    → spell_page (record { tag = 0; name = name; head = rs; items = inner; counted = count_before inner rs }) h
    ≡ spell_rows rs h.head ++ spell_inner inner h.items
unfolding spell_page spell_rows
item_spelled name None rs h = refl
item_spelled name (Some i) rs h =
    let all : take (length rs) rs ≡ rs = take_all (length rs) rs (omega arith) in
    let none : drop (length rs) rs ≡ [] = drop_all (length rs) rs (omega arith) in
    ap (λ l. spell_rows l h.head ++ (spell_loop i.1 h.items ++ spell_rows (drop (length rs) rs) (drop (held_by l) h.head))) all
    ∙ ap (λ l. spell_rows rs h.head ++ (spell_loop i.1 h.items ++ spell_rows l (drop (held_by rs) h.head))) none
    ∙ ap (λ l. spell_rows rs h.head ++ l) (append-nil (spell_loop i.1 h.items))

-- rows that are read one after the other are read as one
pub read_joins : (a b : List Row) (from : List Bool) (x y : List Held × List Bool) → read_rows a from ≡ Some x
    → read_rows b x.1 ≡ Some y → read_rows (a ++ b) from ≡ Some (x.0 ++ y.0, y.1)
unfolding read_rows
read_joins [] b from x y first second =
    let e : ([], from) ≡ x = same_Some _ _ first in
    ap (λ z. read_rows b z.1) e ∙ second ∙ ap (λ z. Some (z.0 ++ y.0, y.1)) e
read_joins (r ∷ rs) b from x y first second =
    then_some (read_field r.kind from) _ x first (λ v was later.
    then_some (read_rows rs v.1) (λ more. Some (option_to_list v.0 ++ more.0, more.1)) x later (λ more had joins.
    let e : (option_to_list v.0 ++ more.0, more.1) ≡ x = same_Some _ _ joins in
    let rest : read_rows b more.1 ≡ Some y = ap (λ z. read_rows b z.1) e ∙ second in
    rw (was, read_joins rs b v.1 more y had rest) (
    ap (λ l. Some (l, y.1)) (sym (append_assoc (option_to_list v.0) more.0 y.0))
    ∙ ap (λ z. Some (z.0 ++ y.0, y.1)) e)))

-- ---- what reading takes

-- the items in an item take no bits back
pub inner_shortens : Parts → (i : Option (List ℕ × List Row)) (from : List Bool) (x : List (List Held) × List Bool)
    → read_inner i from ≡ Some x → length x.1 ≤ length from
unfolding read_loop
inner_shortens laws None from x is = let e : ([], from) ≡ x = same_Some _ _ is in omega (arith, ap (λ z. length z.1) e)
inner_shortens laws (Some i) from x is =
    then_some (read_number 8 from) _ x is (λ count was later.
    then_some (read_bytes count.0 count.1) _ x later (λ row had last.
    then_some (read_items (length (bits_of row.0)) i.1 (bits_of row.0)) (λ items. Some (items, row.1)) x last (λ items got joins.
    let x_is : (items, row.1) ≡ x = same_Some _ _ joins in
    let first = laws.number 8 count.0 from count.1 was in
    let second = laws.bytes count.0 row.0 count.1 row.1 had in
    let one = ap length first.0 ∙ length-append (bits 8 count.0) count.1 in
    let two = ap length second.0 ∙ length-append (bits_of row.0) row.1 in
    omega (arith, one, two, ap (λ z. length z.1) x_is))))

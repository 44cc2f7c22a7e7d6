-- What was written is read again as the same values.
use Rattle.std.proofs.Common.{◌≡◌, ℕ, suc, ◌-◌, ◌%◌, ◌^◌, ◌<◌, ◌≤◌, Bool, true, false, List, [], ◌∷◌, ◌++◌, length, take, refl, sym, ap, ◌∙◌, subst, arith, append_assoc, append-nil, length-append}
use Rattle.std.specs.Prelude.{◌&&◌, Option, Some, None, IsTrue, is_none, nat_eq, not, option_to_list, if◌then◌else◌}
use Rattle.std.specs.List.{flat_map}
use Rattle.std.proofs.lemmas.Bool.{eqb-true, ltb-true}
use Rattle.std.proofs.lemmas.Option.{same_Some}
use Rattle.ts_fields.specs.Bits.{bits, bits_of}
use Rattle.ts_fields.specs.Bodies.{Page, Holding, all_fit, held_by, items_fit, items_sound, page_fits, page_sound, read_items, read_loop, read_page, spell_loop, spell_page}
use Rattle.ts_fields.specs.Fitting.{are_bytes, fits}
use Rattle.ts_fields.specs.Layout.{Row, Held}
use Rattle.ts_fields.specs.Reading.{read_bytes, read_field, read_number, read_rows, ◌>>=◌}
use Rattle.ts_fields.specs.SoundRows.{are_sound, ends_last, is_open, rows_sound, widths}
use Rattle.ts_fields.specs.Spelling.{spell_rows}
use Rattle.ts_groups.specs.Groups.{chosen}
use Rattle.ts_item_forms.specs.ItemForms.{AreOfForm, Form, FormedHolding, IsOfForm, form_sound, formed_sound, page_by, read_each, read_formed, read_inner, read_item, spell_formed, spell_inner, spell_item}
use Rattle.ts_item_forms.proofs.ItemLemmas.{FrontFirst}
use Rattle.ts_item_forms.proofs.LoopLemmas.{Parts, item_spelled}
use Rattle.ts_item_forms.proofs.SoundLemmas.{ChosenSound, SoundItem, sound_item}
use Rattle.ts_item_forms.proofs.StepLemmas.{both, not_true, then_some}
use Rattle.ts_item_forms.proofs.TakesLemmas.{Lengths, widths_both}

-- what the laws of the crates below say of what is read again
pub record Again : Type 0 where
  pub parts : Parts
  pub lengths : Lengths
  pub rows : (rs : List Row) (values : List Held) (rest : List Bool) → fits rs values ≡ true → ends_last rs ≡ true → (is_open rs ≡ true → rest ≡ []) → read_rows rs (spell_rows rs values ++ rest) ≡ Some (values, rest)
  pub number : (count value : ℕ) (rest : List Bool) → read_number count (bits count value ++ rest) ≡ Some (value % 2 ^ count, rest)
  pub bytes : (row : List ℕ) (rest : List Bool) → are_bytes row ≡ true → read_bytes (length row) (bits_of row ++ rest) ≡ Some (row, rest)
  pub page : (p : Page) (h : Holding) → (is_none p.counted ≡ false → length (spell_page p h) ≤ 2040) → IsTrue (page_sound p) → page_fits p h ≡ true → read_page p (spell_page p h) ≡ Some h

-- a page of counted items alone
abbrev loop_page : List ℕ × List Row → Page
loop_page i = record { tag = 0; name = []; head = []; items = Some i; counted = Some 0 }

abbrev items_only : List (List Held) → Holding
items_only items = record { head = []; items = items }

no_more : (l : List Bool) → nat_eq (length l) 0 ≡ true → l ≡ []
no_more [] is = refl
no_more (b ∷ bs) is = absurd (omega (arith, eqb-true (length (b ∷ bs)) 0 is))

ended : (b : Bool) (items wanted : List (List Held))
    → (if b then Some (record { head = []; items = items }) else None) ≡ Some (items_only wanted)
    → (b ≡ true) × (items ≡ wanted)
ended true items wanted is = (refl, ap (λ (h : Holding). h.items) (same_Some (items_only items) (items_only wanted) is))
ended false items wanted is = cc

-- what follows such items changes nothing
loop_again : Again → (i : List ℕ × List Row) (items : List (List Held)) (rest : List Bool) → all_fit i.1 items ≡ true
    → IsTrue (items_sound (Some i)) → length (spell_loop i.1 items) ≤ 2040
    → read_loop i.1 (spell_loop i.1 items ++ rest) ≡ Some (items, rest)
unfolding read_loop read_page spell_page spell_rows read_rows fits
loop_again laws i items rest fit sound few =
    let all = spell_loop i.1 items in
    let short : length (spell_page (loop_page i) (items_only items)) ≤ 2040 = omega (arith, ap length (append-nil all), few) in
    let whole_sound : page_sound (loop_page i) ≡ true = rw sound refl in
    let whole_fit : page_fits (loop_page i) (items_only items) ≡ true = rw fit refl in
    let read = laws.page (loop_page i) (items_only items) (λ never. short) whole_sound whole_fit in
    then_some (read_loop i.1 (all ++ [])) _ (items_only items) read (λ x was later.
    let end = ended (nat_eq (length x.1) 0) x.0 items later in
    then_some (read_number 8 (all ++ [])) _ x was (λ count one after.
    then_some (read_bytes count.0 count.1) _ x after (λ row two last.
    then_some (read_items (length (bits_of row.0)) i.1 (bits_of row.0)) (λ its. Some (its, row.1)) x last (λ its three joins.
    let x_is : (its, row.1) ≡ x = same_Some _ _ joins in
    let first = laws.parts.number 8 count.0 (all ++ []) count.1 one in
    let second = laws.parts.bytes count.0 row.0 count.1 row.1 two in
    let none : row.1 ≡ [] = ap (λ z. z.1) x_is ∙ no_more x.1 end.0 in
    let same : its ≡ items = ap (λ z. z.0) x_is ∙ end.1 in
    let are : all ≡ bits 8 count.0 ++ bits_of row.0 =
    sym (append-nil all) ∙ first.0 ∙ ap (λ l. bits 8 count.0 ++ l) (second.0 ∙ ap (λ l. bits_of row.0 ++ l) none ∙ append-nil (bits_of row.0)) in
    let told : count.0 % 2 ^ 8 ≡ count.0 = omega (arith, first.1) in
    let number : read_number 8 (all ++ rest) ≡ Some (count.0, bits_of row.0 ++ rest) =
    ap (λ l. read_number 8 (l ++ rest)) are ∙ ap (read_number 8) (append_assoc (bits 8 count.0) (bits_of row.0) rest)
    ∙ laws.number 8 count.0 (bits_of row.0 ++ rest) ∙ ap (λ n. Some (n, bits_of row.0 ++ rest)) told in
    let bytes : read_bytes count.0 (bits_of row.0 ++ rest) ≡ Some (row.0, rest) =
    ap (λ n. read_bytes n (bits_of row.0 ++ rest)) (sym second.1) ∙ laws.bytes row.0 rest second.2 in
    rw (number, bytes, three) (ap (λ l. Some (l, rest)) same)))))

inner_again : Again → (i : Option (List ℕ × List Row)) (items : List (List Held)) (rest : List Bool) → items_fit i items ≡ true
    → IsTrue (items_sound i) → length (spell_inner i items) ≤ 2040
    → read_inner i (spell_inner i items ++ rest) ≡ Some (items, rest)
inner_again laws None [] rest fit sound few = refl
inner_again laws None (x ∷ xs) rest fit sound few = cc
inner_again laws (Some i) items rest fit sound few = loop_again laws i items rest fit sound few

-- rows that are read as one are read one after the other
read_splits : (a b : List Row) (from : List Bool) (y : List Held × List Bool) → read_rows (a ++ b) from ≡ Some y
    → (x : List Held × List Bool) × (read_rows a from ≡ Some x) × (z : List Held × List Bool) × (read_rows b x.1 ≡ Some z) × ((x.0 ++ z.0, z.1) ≡ y)
unfolding read_rows
read_splits [] b from y all = (([], from), refl, y, all, refl)
read_splits (r ∷ rs) b from y all =
    then_some (read_field r.kind from) _ y all (λ v was later.
    then_some (read_rows (rs ++ b) v.1) (λ more. Some (option_to_list v.0 ++ more.0, more.1)) y later (λ more had joins.
    let inner = read_splits rs b v.1 more had in
    let x = inner.0 in
    let z = inner.2 in
    let y_is : (option_to_list v.0 ++ more.0, more.1) ≡ y = same_Some _ _ joins in (
      (option_to_list v.0 ++ x.0, x.1),
      rw (was, inner.1) refl,
      z,
      inner.3,
      ap (λ l. (l, z.1)) (append_assoc (option_to_list v.0) x.0 z.0) ∙ ap (λ m. (option_to_list v.0 ++ m.0, m.1)) inner.4 ∙ y_is,
    )))

module _ (laws : Again) (front_first : FrontFirst) (chosen_sound : ChosenSound) where
  -- an item with these first values, whatever follows it
  own_again : (f : Form) (h : Holding) (rest : List Bool) → SoundItem f (take (held_by f.head) h.head)
      → page_fits (page_by f (take (held_by f.head) h.head)) h ≡ true
      → length (spell_item (page_by f (take (held_by f.head) h.head), h)) ≤ 2040
      → read_item f (spell_item (page_by f (take (held_by f.head) h.head), h) ++ rest) ≡ Some ((page_by f (take (held_by f.head) h.head), h), rest)
  unfolding read_item
  own_again f h rest sound fit few =
      let values = take (held_by f.head) h.head in
      let rows = f.head ++ chosen f.groups values in
      let inner = spell_inner f.inner h.items in
      let from = spell_rows rows h.head ++ (inner ++ rest) in
      let spelled = item_spelled f.name f.inner rows h in
      let from_is : spell_item (page_by f values, h) ++ rest ≡ from = ap (λ l. l ++ rest) spelled ∙ append_assoc (spell_rows rows h.head) inner rest in
      let halves = both (fits rows h.head) (items_fit f.inner h.items) fit in
      let ends = (both (are_sound rows) (ends_last rows) (both (are_sound rows && ends_last rows) (nat_eq (widths rows % 8) 0) sound.rows).0).1 in
      let read : read_rows rows from ≡ Some (h.head, inner ++ rest) = laws.rows rows h.head (inner ++ rest) halves.0 ends (λ goes. absurd (never (is_open rows) sound.closed goes)) in
      let parts = read_splits f.head (chosen f.groups values) from (h.head, inner ++ rest) read in
      let first = parts.0 in
      let more = parts.2 in
      let front = front_first f.head (chosen f.groups values) from (h.head, inner ++ rest) read in
      let same : first.0 ≡ values = ap (λ z. z.0) (same_Some _ _ (sym parts.1 ∙ front.1)) ∙ sym front.2 in
      let joined : first.0 ++ more.0 ≡ h.head = ap (λ z. z.0) parts.4 in
      let after : more.1 ≡ inner ++ rest = ap (λ z. z.1) parts.4 in
      let short : length inner ≤ 2040 = omega (arith, ap length spelled ∙ length-append (spell_rows rows h.head) inner, few) in
      let last : read_inner f.inner more.1 ≡ Some (h.items, rest) = ap (read_inner f.inner) after ∙ inner_again laws f.inner h.items rest halves.1 sound.inner short in
      let chosen_is : read_rows (chosen f.groups first.0) first.1 ≡ Some more = ap (λ v. read_rows (chosen f.groups v) first.1) same ∙ parts.3 in
      ap (read_item f) from_is
      ∙ rw (parts.1, chosen_is, last) (
      ap (λ v. Some ((page_by f v, record { head = first.0 ++ more.0; items = h.items }), rest)) same
      ∙ ap (λ l. Some ((page_by f values, record { head = l; items = h.items }), rest)) joined)
    where
      never : (b : Bool) → b ≡ false → b ≡ true → ⊥
      never true closed is = cc
      never false closed is = cc

  item_again : (f : Form) (x : Page × Holding) (rest : List Bool) → form_sound f ≡ true → IsOfForm f x
      → length (spell_item x) ≤ 2040 → read_item f (spell_item x ++ rest) ≡ Some (x, rest)
  item_again f x rest sound is few =
      let h = x.1 in
      let q = page_by f (take (held_by f.head) h.head) in
      let fit : page_fits q h ≡ true = ap (λ z. page_fits z h) (sym is.own) ∙ is.fits in
      let short : length (spell_item (q, h)) ≤ 2040 = omega (arith, ap (λ z. length (spell_item (z, h))) is.own, few) in
      subst (λ z. read_item f (spell_item (z, h) ++ rest) ≡ Some ((z, h), rest)) (sym is.own)
      (own_again f h rest (sound_item chosen_sound f (take (held_by f.head) h.head) sound) fit short)

  -- each item has some bits
  item_long : (f : Form) (x : Page × Holding) → form_sound f ≡ true → IsOfForm f x → 0 < length (spell_item x)
  item_long f x sound is =
      let h = x.1 in
      let values = take (held_by f.head) h.head in
      let rows = f.head ++ chosen f.groups values in
      let q = page_by f values in
      let fit : page_fits q h ≡ true = ap (λ z. page_fits z h) (sym is.own) ∙ is.fits in
      let halves = both (fits rows h.head) (items_fit f.inner h.items) fit in
      let wide = laws.lengths.spelled rows h.head (laws.lengths.fit rows h.head halves.0) in
      let some = ltb-true 0 (widths f.head) (sound_item chosen_sound f values sound).some in
      let long = ap (λ z. length (spell_item (z, h))) is.own ∙ ap length (item_spelled f.name f.inner rows h) ∙ length-append (spell_rows rows h.head) (spell_inner f.inner h.items) in
      omega (arith, long, wide.1, widths_both f.head (chosen f.groups values), some)

  each_first : (most : ℕ) (f : Form) (from rest : List Bool) (x : Page × Holding) → 0 < length from
      → read_item f from ≡ Some (x, rest) → read_each (suc most) f from ≡ (read_each most f rest >>= λ more. Some (x ∷ more))
  unfolding read_each
  each_first most f [] rest x some is = absurd (omega arith)
  each_first most f (b ∷ bs) rest x some is = rw is refl

  each_none : (most : ℕ) (f : Form) → read_each most f [] ≡ Some []
  unfolding read_each
  each_none most f = refl

  each_again : (most : ℕ) (f : Form) (xs : List (Page × Holding)) → form_sound f ≡ true → AreOfForm f xs
      → length (flat_map spell_item xs) ≤ most → length (flat_map spell_item xs) ≤ 2040
      → read_each most f (flat_map spell_item xs) ≡ Some xs
  each_again most f [] sound all long few = each_none most f
  each_again most f (x ∷ xs) sound all long few =
      let rest = flat_map spell_item xs in
      let sum = length-append (spell_item x) rest in
      let some = item_long f x sound all.0 in
      let up : suc (most - 1) ≡ most = omega (arith, some, sum, long) in
      let read = item_again f x rest sound all.0 (omega (arith, sum, few)) in
      ap (λ k. read_each k f (spell_item x ++ rest)) (sym up)
      ∙ each_first (most - 1) f (spell_item x ++ rest) rest x (omega (arith, some, sum)) read
      ∙ rw (each_again (most - 1) f xs sound all.1 (omega (arith, some, sum, long)) (omega (arith, sum, few))) refl

  pub formed_again : (p : Page) (f : Form) (h : FormedHolding) → formed_sound p f ≡ true → fits p.head h.head ≡ true
      → AreOfForm f h.items → length (spell_formed p h) ≤ 2040 → read_formed p f (spell_formed p h) ≡ Some h
  unfolding read_formed
  formed_again p f h sound fit all few =
      let one = both (rows_sound p.head) (not (is_open p.head) && form_sound f) sound in
      let two = both (not (is_open p.head)) (form_sound f) one.1 in
      let rest = flat_map spell_item h.items in
      let ends = (both (are_sound p.head) (ends_last p.head) (both (are_sound p.head && ends_last p.head) (nat_eq (widths p.head % 8) 0) one.0).0).1 in
      let read = laws.rows p.head h.head rest fit ends (λ goes. absurd (never (is_open p.head) (not_true _ two.0) goes)) in
      let sum = length-append (spell_rows p.head h.head) rest in
      let least : length rest ≤ length rest = omega arith in
      rw (read, each_again (length rest) f h.items two.1 all least (omega (arith, sum, few))) refl
    where
      never : (b : Bool) → b ≡ false → b ≡ true → ⊥
      never true closed is = cc
      never false closed is = cc

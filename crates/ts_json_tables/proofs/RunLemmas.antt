-- The table of a run is valid.
use Rattle.std.proofs.Common.{◌≡◌, ℕ, zero, suc, ◌-◌, ◌<◌, ◌≤◌, Bool, true, false, List, [], ◌∷◌, ◌++◌, length, take, drop, get_or, map, refl, sym, ap, ◌∙◌, arith, subst, inl, inr}
use Rattle.std.specs.Prelude.{◌&&◌, ◌||◌, All, Option, Some, None, Result, Ok, Err, IfOk, find, filter, option_to_list, is_some, not, nat_eq, nat_lt, nat_le, if◌then◌else◌}
use Rattle.std.specs.declared.alloc.AllocError.{AllocError}
use Rattle.std.specs.List.{list_all}
use Rattle.std.proofs.lemmas.Bool.{and_from, eqb-true, le-leb, lt-ltb}
use Rattle.std.proofs.lemmas.List.{length-drop, length-map, length-take-le}
use Rattle.std.proofs.lemmas.List.Elements.{All-get_or, All-head}
use Rattle.ts_bit_rows.proofs.Fields.{field-below}
use Rattle.ts_jtree.specs.Shown.{are_within}
use Rattle.ts_section.specs.ValidSection.{IsSection}
use Rattle.ts_section.specs.SectionFields.{body_of, extension_of, is_long, last_number_of, number_of, table_id_of, version_of}
use Rattle.ts_section.specs.SectionRun.{IsTableRun, stands_alone}
use Rattle.ts_fields.specs.Fitting.{fits}
use Rattle.ts_table_pages.specs.PatEntries.{entry_item, is_network, network_items}
use Rattle.ts_table_pages.specs.PsiPages.{entry_page}
use Rattle.ts_table_rows.specs.TableFitting.{head_fits, item_fits, items_fit, own_fit, table_fits, values_fit, zeros_from}
use Rattle.ts_table_rows.specs.TablePages.{ItemPage, TablePage, has_id}
use Rattle.ts_table_rows.specs.TableValues.{ItemHolding, TableHolding}
use Rattle.ts_json_tables.specs.declared.table.Table.{Table}
use Rattle.ts_json_tables.specs.ElementRows.{is_eit_id}
use Rattle.ts_json_tables.specs.HeldTables.{TableValue, long, short, table_value}
use Rattle.ts_json_tables.specs.ValidTables.{IsLaid, IsTable, is_payload, items_within, numbers_kept}
use Rattle.ts_json_tables.specs.ValidTables as valid
use Rattle.ts_json_tables.specs.RunTables.{bytes_table, kept_numbers, long_of, settled, settled_extension, settled_items, short_of}
use Rattle.ts_json_tables.specs.TableElements.{shown_items}
use Rattle.ts_json_tables.specs.TableReading.{is_valid_count}
use Rattle.ts_json_tables.proofs.EntryLemmas.{Settled, begins_not, settled_none, settled_some}
use Rattle.ts_json_tables.proofs.FitLemmas.{fit_parts}
use Rattle.ts_json_tables.proofs.KnownLemmas.{Facts, ItemsBare}
use Rattle.ts_json_tables.proofs.RowLemmas.{plain_within}
use Rattle.ts_json_tables.proofs.ShowLemmas.{is_entry}
use Rattle.ts_json_tables.proofs.StepLemmas.{both}

-- ---- bytes

body_small : (b : List ℕ) → IsSection b → is_long b ≡ true → length (body_of b) ≤ 4084
body_small b s form =
    let whole = s.whole in
    let range = s.in_range in
    let room = (s.long form).room in
    let inner : length (take (length b - 4) b) ≡ length b - 4 = length-take-le (length b - 4) b (omega arith) in
    let size : length (drop 8 (take (length b - 4) b)) ≡ length b - 4 - 8 = length-drop 8 (take (length b - 4) b) ∙ ap (λ n. n - 8) inner in
    rw form (omega (arith, size, whole, range, room))

short_small : (b : List ℕ) → IsSection b → is_long b ≡ false → length (body_of b) ≤ 4093
short_small b s form = rw form (omega (arith, length-drop 3 b, s.whole, s.in_range))

small_at : (run : List (List ℕ)) → ((i : ℕ) → i < length run → IsSection (get_or run i []) × (is_long (get_or run i []) ≡ true))
    → list_all (is_payload 4084) (map body_of run) ≡ true
small_at [] each = refl
small_at (b ∷ run) each =
    let here = each 0 (omega arith) in
    and_from (is_payload 4084 (body_of b)) (list_all (is_payload 4084) (map body_of run))
    (le-leb (length (body_of b)) 4084 (body_small b here.0 here.1))
    (small_at run (λ i inside. each (suc i) (omega (arith, inside))))

id_small : (b : List ℕ) → IsSection b → table_id_of b < 255
id_small b s =
    let below = field-below b 0 8 in
    let other : (table_id_of b ≡ 255) → ⊥ = s.no_stuffing in
    omega (arith, below, other)

pub long_alone : (s : List ℕ) → stands_alone s ≡ false → is_long s ≡ true
long_alone s is = go (is_long s) is
  where
    go : (b : Bool) → (not b || (nat_le 78 (table_id_of s) && nat_le (table_id_of s) 111)) ≡ false → b ≡ true
    go true is = refl
    go false is = cc

pub eit_alone : (s : List ℕ) → is_long s ≡ true → stands_alone s ≡ is_eit_id (table_id_of s)
eit_alone s is = rw is refl

-- how many sections there are, each of the long form
record Counted (s : List ℕ) (run : List (List ℕ)) : Type 0 where
  count : is_valid_count (is_eit_id (table_id_of s)) (length run) ≡ true
  longs : (i : ℕ) → i < length run → is_long (get_or run i []) ≡ true

counted_run : (s : List ℕ) (ss : List (List ℕ)) → is_long s ≡ true → IsTableRun (s ∷ ss) → Counted s (s ∷ ss)
counted_run s ss form (inl alone) =
    let eit : is_eit_id (table_id_of s) ≡ true = sym (eit_alone s form) ∙ alone.0 in
    record {
      count = rw (eit, alone.1) refl;
      longs = λ i inside. subst (λ l. i < length (s ∷ l) → is_long (get_or (s ∷ l) i []) ≡ true) (sym alone.1) (only i) inside;
    }
  where
    only : (i : ℕ) → i < length (s ∷ []) → is_long (get_or (s ∷ []) i []) ≡ true
    only zero inside = form
    only (suc i) inside = absurd (omega (arith, inside))
counted_run s ss form (inr members) =
    let first = members.0 0 (omega arith) in
    let eit : is_eit_id (table_id_of s) ≡ false = sym (eit_alone s form) ∙ first.together in
    let last = field-below s 56 8 in
    record {
      count = rw (eit, le-leb 1 (length (s ∷ ss)) (omega arith), le-leb (length (s ∷ ss)) 256 (omega (arith, members.1, last))) refl;
      longs = λ i inside. long_alone (get_or (s ∷ ss) i []) (members.0 i inside).together;
    }

numbers_by : (eit : Bool) (n : ℕ × ℕ) → n.0 ≤ n.1 → n.1 < 256 → numbers_kept eit (if eit then n else (0, 0)) ≡ true
numbers_by true n order last = and_from (nat_le n.0 n.1) (nat_lt n.1 256) (le-leb n.0 n.1 order) (lt-ltb n.1 256 last)
numbers_by false n order last = refl

long_run : (s : List ℕ) (ss : List (List ℕ)) → is_long s ≡ true → IsTableRun (s ∷ ss) → All (λ b. IsSection b) (s ∷ ss)
    → valid.is_long (long_of s (s ∷ ss)) ≡ true
long_run s ss form run all =
    let here = All-head (λ b. IsSection b) s ss all in
    let counted = counted_run s ss form run in
    let numbers = (here.long form).numbers in
    and_from (nat_lt (version_of s) 32) _ (lt-ltb (version_of s) 32 (field-below s 42 5))
    (and_from (nat_lt (table_id_of s) 255) _ (lt-ltb (table_id_of s) 255 (id_small s here))
    (and_from (nat_lt (extension_of s) 65536) _ (lt-ltb (extension_of s) 65536 (field-below s 24 16))
    (and_from (numbers_kept (is_eit_id (table_id_of s)) (kept_numbers s)) _ (numbers_by (is_eit_id (table_id_of s)) (number_of s, last_number_of s) numbers (field-below s 56 8))
    (and_from (is_valid_count (is_eit_id (table_id_of s)) (length (map body_of (s ∷ ss)))) _
    (ap (is_valid_count (is_eit_id (table_id_of s))) (map_count (s ∷ ss)) ∙ counted.count)
    (small_at (s ∷ ss) (λ i inside. (All-get_or (λ b. IsSection b) (s ∷ ss) i [] inside all, counted.longs i inside)))))))
  where
    map_count : (run : List (List ℕ)) → length (map body_of run) ≡ length run
    map_count run = length-map run body_of

pub bytes_valid : (run : List (List ℕ)) → IsTableRun run → All (λ b. IsSection b) run → IsTable (bytes_table run)
bytes_valid [] whole all = absurd whole
bytes_valid (s ∷ ss) whole all = go (is_long s) refl
  where
    go : (b : Bool) → is_long s ≡ b → IsTable (if b then long (long_of s (s ∷ ss)) else short (short_of s))
    go true form = long_run s ss form whole all
    go false form =
        let here = All-head (λ b. IsSection b) s ss all in
        and_from (nat_lt (table_id_of s) 255) (is_payload 4093 (body_of s)) (lt-ltb (table_id_of s) 255 (id_small s here))
        (le-leb (length (body_of s)) 4093 (short_small s here form))

-- ---- entries with number 0

entry_within : (id pid : ℕ) → id < 65536 → nat_eq id 0 ≡ false → are_within entry_page.rows (entry_item id pid).values ≡ true
unfolding are_within
entry_within id pid small other =
    let above : 1 ≤ id = above_by id other in
    rw (le-leb 1 id above, le-leb id 65535 (omega (arith, small))) refl
  where
    above_by : (n : ℕ) → nat_eq n 0 ≡ false → 1 ≤ n
    above_by zero is = cc
    above_by (suc n) is = omega arith

-- entries without the number 0 fit, and are in their ranges
others_good : (xs : List ItemHolding) → list_all (item_fits entry_page) xs ≡ true
    → (list_all (item_fits entry_page) (filter (λ x. not (is_network x)) xs) ≡ true)
    × (list_all (λ x. are_within entry_page.rows x.values) (filter (λ x. not (is_network x)) xs) ≡ true)
others_good [] fit = (refl, refl)
others_good (x ∷ xs) fit =
    let parts = both (item_fits entry_page x) (list_all (item_fits entry_page) xs) fit in
    one_good (is_network x) x (filter (λ y. not (is_network y)) xs) refl parts.0 (others_good xs parts.1)
  where
    one_good : (b : Bool) (x : ItemHolding) (ys : List ItemHolding) → is_network x ≡ b → item_fits entry_page x ≡ true
        → (list_all (item_fits entry_page) ys ≡ true) × (list_all (λ y. are_within entry_page.rows y.values) ys ≡ true)
        → (list_all (item_fits entry_page) (if not b then x ∷ ys else ys) ≡ true) × (list_all (λ y. are_within entry_page.rows y.values) (if not b then x ∷ ys else ys) ≡ true)
    one_good true x ys zero_is fit rest = rest
    one_good false x ys zero_is fit rest =
        let e = is_entry x fit in
        let other : nat_eq e.id 0 ≡ false = sym (ap is_network e.same) ∙ zero_is in
        let inside : are_within entry_page.rows x.values ≡ true = ap (λ y. are_within entry_page.rows y.values) e.same ∙ entry_within e.id e.pid e.id_small other in (
          and_from (item_fits entry_page x) (list_all (item_fits entry_page) ys) fit rest.0,
          and_from (are_within entry_page.rows x.values) (list_all (λ y. are_within entry_page.rows y.values) ys) inside rest.1,
        )

-- the entry with number 0, if there is one
record Zero (o : Option ItemHolding) : Type 0 where
  pid : Option ℕ
  same : option_to_list o ≡ network_items pid
  small : (n : ℕ) → pid ≡ Some n → n < 8192

zero_entry : (x : ItemHolding) → item_fits entry_page x ≡ true → is_network x ≡ true → Zero (Some x)
zero_entry x fit zero_is =
    let e = is_entry x fit in
    let none : e.id ≡ 0 = eqb-true e.id 0 (sym (ap is_network e.same) ∙ zero_is) in
    record {
      pid = Some e.pid;
      same = ap (λ y. y ∷ []) (e.same ∙ ap (λ n. entry_item n e.pid) none);
      small = λ n is. small_by e.pid n is e.small;
    }
  where
    small_by : (a b : ℕ) → ◌≡◌ {A = Option ℕ} (Some a) (Some b) → a < 8192 → b < 8192
    small_by a b is small = let f : a ≡ b = cc in subst (λ k. k < 8192) f small

zero_found : (xs : List ItemHolding) → list_all (item_fits entry_page) xs ≡ true → Zero (find is_network xs)
zero_found [] fit = record { pid = None; same = refl; small = λ n is. cc }
zero_found (x ∷ xs) fit =
    let parts = both (item_fits entry_page x) (list_all (item_fits entry_page) xs) fit in
    one_zero (is_network x) refl parts.0 (zero_found xs parts.1)
  where
    one_zero : (b : Bool) → is_network x ≡ b → item_fits entry_page x ≡ true → Zero (find is_network xs) → Zero (if b then Some x else find is_network xs)
    one_zero true is fit rest = zero_entry x fit is
    one_zero false is fit rest = rest

-- ---- tables of a page

record Kept (one_zero : Bool) (i : Option ItemPage) (xs : List ItemHolding) : Type 0 where
  fits : items_fit i (settled_items one_zero xs) ≡ true
  zeros : is_some (zeros_from one_zero false (settled_items one_zero xs)) ≡ true
  within : items_within i (shown_items one_zero (settled_items one_zero xs)) ≡ true

kept_zero : (n : Option ℕ) (xs ys : List ItemHolding) → ((m : ℕ) → n ≡ Some m → m < 8192)
    → list_all (item_fits entry_page) ys ≡ true → list_all (λ x. are_within entry_page.rows x.values) ys ≡ true
    → settled_items true xs ≡ network_items n ++ ys → Kept true (Some entry_page) xs
kept_zero n xs ys small fit inside is =
    let s = settled_by n small in
    record {
      fits = ap (items_fit (Some entry_page)) is ∙ s.fits;
      zeros = ap (λ l. is_some (zeros_from true false l)) is ∙ s.zeros;
      within = ap (λ l. items_within (Some entry_page) (shown_items true l)) is ∙ ap (items_within (Some entry_page)) s.shown ∙ inside;
    }
  where
    settled_by : (n : Option ℕ) → ((m : ℕ) → n ≡ Some m → m < 8192) → Settled true (Some entry_page) n ys
    settled_by None small = settled_none ys fit inside
    settled_by (Some pid) small = settled_some pid ys (small pid refl) fit inside

bare_within : (i : Option ItemPage) (xs : List ItemHolding) → ItemsBare i → items_within i xs ≡ true
bare_within None xs bare = refl
bare_within (Some i) [] bare = refl
bare_within (Some i) (x ∷ xs) bare =
    and_from (are_within i.rows x.values) (list_all (λ y. are_within i.rows y.values) xs) (plain_within i.rows x.values bare) (bare_within (Some i) xs bare)

kept_items : (one_zero : Bool) (i : Option ItemPage) (xs : List ItemHolding) → (one_zero ≡ true → i ≡ Some entry_page)
    → (one_zero ≡ false → ItemsBare i) → items_fit i xs ≡ true → is_some (zeros_from one_zero false xs) ≡ true → Kept one_zero i xs
kept_items false i xs entries free fit zeros = record {
  fits = fit;
  zeros = zeros;
  within = ap (λ b. items_within i (if b then drop 1 xs else xs)) (begins_not xs) ∙ bare_within i xs (free refl);
}
kept_items true i xs entries free fit zeros =
    let here : items_fit (Some entry_page) xs ≡ true = subst (λ j. items_fit j xs ≡ true) (entries refl) fit in
    let others = others_good xs here in
    let z = zero_found xs here in
    subst (λ j. Kept true j xs) (sym (entries refl))
    (kept_zero z.pid xs (filter (λ x. not (is_network x)) xs) z.small others.0 others.1 (ap (λ l. l ++ filter (λ x. not (is_network x)) xs) z.same))

extension_kept : (called : List ℕ) (n : ℕ) → n < 65536 → (settled_extension called n < 65536) × (settled_extension called n ≡ settled_extension called (settled_extension called n))
extension_kept [] n small = (omega arith, refl)
extension_kept (c ∷ cs) n small = (small, refl)

pub settled_laid : (p : TablePage) (t : TableHolding) → Facts p → table_fits p t ≡ true → IsLaid p (settled p t)
settled_laid p t facts fit =
    let parts = fit_parts p t fit in
    let kept = kept_items p.one_zero p.items t.body.items facts.zero facts.free parts.items parts.zeros in
    let ext = extension_kept p.extension t.head.extension parts.extension in
    record {
      known = facts.named;
      fits = and_from (head_fits p (settled p t).head) _
          (and_from (has_id p.ids t.head.table_id) _ parts.id
          (and_from (nat_lt t.head.table_id 255) _ (lt-ltb t.head.table_id 255 parts.valid_id)
          (and_from (nat_lt (settled_extension p.extension t.head.extension) 65536) _ (lt-ltb (settled_extension p.extension t.head.extension) 65536 ext.0)
          (and_from (nat_lt t.head.version 32) _ (lt-ltb t.head.version 32 parts.version) parts.numbers))))
          (and_from (values_fit p t.body.values) _ (and_from (fits p.common _) (fits p.head _) parts.common parts.others)
          (and_from (own_fit p.loop_form t.body.descriptors) _ parts.own
          (and_from (items_fit p.items (settled_items p.one_zero t.body.items)) _ kept.fits kept.zeros)));
      extension = ext.1;
      within = kept.within;
    }

pub same_valid : (result : Result Table AllocError) (v : TableValue) → IfOk result (λ t. table_value t ≡ v) → IsTable v
    → IfOk result (λ t. IsTable (table_value t))
same_valid (Ok t) v is good = subst IsTable (sym is) good
same_valid (Err e) v is good = tt

-- Elements as they are put together.
use Rattle.std.proofs.Common.{◌≡◌, ℕ, ◌<◌, ◌^◌, Bool, true, false, List, [], ◌∷◌, refl, ap, ◌∙◌, arith, drop}
use Rattle.std.specs.Prelude.{◌&&◌, Option, Some, None, nat_lt, nat_le, nat_eq, if◌then◌else◌}
use Rattle.std.proofs.lemmas.Bool.{and_from, lt-ltb, ltb-true, leb-true}
use Rattle.ts_fields.specs.Fitting.{fits}
use Rattle.ts_fields.specs.Layout.{Row, Held, number, bytes}
use Rattle.ts_jtree.specs.Numbers.{truth_bit}
use Rattle.ts_jtree.specs.Shown.{are_shown}
use Rattle.ts_table_pages.specs.PatEntries.{entry_item}
use Rattle.ts_table_pages.specs.PsiPages.{entry_page}
use Rattle.ts_table_rows.specs.BodyReading.{first_number, is_zero}
use Rattle.ts_table_rows.specs.TableFitting.{item_fits, items_fit, none_there, numbers_fit}
use Rattle.ts_table_rows.specs.TablePages.{ItemPage, TablePage}
use Rattle.ts_table_rows.specs.TableValues.{ItemHolding, TableHolding}
use Rattle.ts_bits.specs.TaggedBody.{TaggedBody}
use Rattle.ts_json_tables.specs.ElementRows.{element_rows, extension_rows, first_rows, id_rows, is_eit_id, kept_rows, long_rows, network_rows, short_rows, table_id_row}
use Rattle.ts_json_tables.specs.HeldTables.{LongHolding, ShortHolding}
use Rattle.ts_json_tables.specs.ValidTables.{IsLaid}
use Rattle.ts_json_tables.specs.TableElements.{begins_with_zero, element_values, extension_values, first_values, id_values, kept_values, long_values, network_values, short_values}
use Rattle.ts_json_tables.proofs.FitLemmas.{Parts, fit_parts}
use Rattle.ts_json_tables.proofs.KnownLemmas.{named_facts}
use Rattle.ts_json_tables.proofs.RowLemmas.{fits_append}
use Rattle.ts_json_tables.proofs.StepLemmas.{both}

pub shown_with : (rs rs2 : List Row) (vs vs2 : List Held) → rs ≡ rs2 → vs ≡ vs2 → are_shown rs2 vs2 ≡ true
    → are_shown rs vs ≡ true
shown_with rs rs2 vs vs2 rows values is = ap (λ r. are_shown r vs) rows ∙ ap (are_shown rs2) values ∙ is

pub short_is_shown : (s : ShortHolding) → are_shown short_rows (short_values s) ≡ true
unfolding are_shown
short_is_shown s = refl

pub long_is_shown : (l : LongHolding) → are_shown (long_rows (is_eit_id l.table_id)) (long_values l) ≡ true
unfolding are_shown
long_is_shown l = go (is_eit_id l.table_id)
  where
    go : (b : Bool) → are_shown (kept_rows b) (kept_values (if b then Some l.numbers else None)) ≡ true
    go true = refl
    go false = refl

-- ---- the values of a table fit the rows of its element

pub truth_small : (b : Bool) → nat_lt (truth_bit b) 2 ≡ true
truth_small true = refl
truth_small false = refl

pub id_fit : (ids : List (ℕ × ℕ)) (id : ℕ) → id < 255 → fits (id_rows ids) (id_values ids id) ≡ true
unfolding fits
id_fit [] id small = refl
id_fit (x ∷ []) id small = go (nat_eq x.0 x.1)
  where
    go : (b : Bool) → fits (if b then [] else table_id_row x ∷ []) (if b then [] else number id ∷ []) ≡ true
    go true = refl
    go false = and_from (nat_lt id (2 ^ 8)) true (lt-ltb id (2 ^ 8) (omega (arith, small))) refl
id_fit (x ∷ y ∷ more) id small = and_from (nat_lt (truth_bit (nat_eq id x.0)) 2) true (truth_small (nat_eq id x.0)) refl

pub extension_fit : (called : List ℕ) (n : ℕ) → n < 65536 → fits (extension_rows called) (extension_values called n) ≡ true
unfolding fits
extension_fit [] n small = refl
extension_fit (c ∷ cs) n small = and_from (nat_lt n (2 ^ 16)) true (lt-ltb n (2 ^ 16) (omega (arith, small))) refl

pub kept_fit : (kept : Bool) (n : Option (ℕ × ℕ)) → numbers_fit kept n ≡ true → fits (kept_rows kept) (kept_values n) ≡ true
unfolding fits
kept_fit false None is = refl
kept_fit false (Some n) is = cc
kept_fit true None is = cc
kept_fit true (Some n) is =
    let parts = both (nat_le n.0 n.1) (nat_lt n.1 256) is in
    let last = ltb-true n.1 256 parts.1 in
    let order = leb-true n.0 n.1 parts.0 in
    and_from (nat_lt n.0 (2 ^ 8)) (nat_lt n.1 (2 ^ 8) && true) (lt-ltb n.0 (2 ^ 8) (omega (arith, last, order)))
    (and_from (nat_lt n.1 (2 ^ 8)) true (lt-ltb n.1 (2 ^ 8) (omega (arith, last))) refl)

pub first_fit : (p : TablePage) (t : TableHolding) → Parts p t → fits (first_rows p) (first_values p t.head) ≡ true
unfolding fits
first_fit p t parts =
    let id = id_fit p.ids t.head.table_id parts.valid_id in
    let extension = extension_fit p.extension t.head.extension parts.extension in
    let later = fits_append (id_rows p.ids) (extension_rows p.extension) (id_values p.ids t.head.table_id) (extension_values p.extension t.head.extension) id extension in
    and_from (nat_lt t.head.version (2 ^ 5)) _ (lt-ltb t.head.version (2 ^ 5) (omega (arith, parts.version)))
    (and_from (nat_lt (truth_bit t.head.current) 2) _ (truth_small t.head.current) later)

-- ---- entries

pub record IsEntry (x : ItemHolding) : Type 0 where
  pub id : ℕ
  pub pid : ℕ
  pub same : x ≡ entry_item id pid
  pub small : pid < 8192
  pub id_small : id < 65536

none_held : (ds : List TaggedBody) → none_there ds ≡ true → ds ≡ []
none_held [] is = refl
none_held (d ∷ ds) is = cc

entry_by : (values : List Held) (ds : List TaggedBody) → fits entry_page.rows values ≡ true → ds ≡ []
    → IsEntry (record { values = values; descriptors = ds })
unfolding fits
entry_by [] ds fit none = cc
entry_by (number n ∷ []) ds fit none =
    let parts = both (nat_lt n (2 ^ 16)) _ fit in let no : false ≡ true = parts.1 in cc
entry_by (number n ∷ number m ∷ []) ds fit none =
    let parts = both (nat_lt n (2 ^ 16)) _ fit in
    let more = both (nat_lt m (2 ^ 13)) _ parts.1 in
    record { id = n; pid = m; same = ap (λ l. record { values = number n ∷ number m ∷ []; descriptors = l }) none; small = ltb-true m 8192 more.0; id_small = ltb-true n 65536 parts.0 }
entry_by (number n ∷ number m ∷ v ∷ vs) ds fit none =
    let parts = both (nat_lt n (2 ^ 16)) _ fit in
    let more = both (nat_lt m (2 ^ 13)) _ parts.1 in let no : false ≡ true = more.1 in cc
entry_by (number n ∷ bytes b ∷ vs) ds fit none =
    let parts = both (nat_lt n (2 ^ 16)) _ fit in let no : false ≡ true = parts.1 in cc
entry_by (bytes b ∷ vs) ds fit none = cc

pub is_entry : (x : ItemHolding) → item_fits entry_page x ≡ true → IsEntry x
is_entry x fit =
    let parts = both (fits entry_page.rows x.values) (none_there x.descriptors) fit in
    entry_by x.values x.descriptors parts.0 (none_held x.descriptors parts.1)

entry_network : (x : ItemHolding) → IsEntry x → fits (network_rows true) (drop 1 x.values) ≡ true
unfolding fits
entry_network x e =
    ap (λ y. fits (network_rows true) (drop 1 y.values)) e.same
    ∙ and_from (nat_lt e.pid (2 ^ 13)) true (lt-ltb e.pid (2 ^ 13) (omega (arith, e.small))) refl

network_fit : (one_zero : Bool) (i : Option ItemPage) (items : List ItemHolding) → (one_zero ≡ true → i ≡ Some entry_page)
    → items_fit i items ≡ true
    → fits (network_rows (begins_with_zero one_zero items)) (network_values one_zero items) ≡ true
unfolding fits
network_fit one_zero i [] entries fit = refl
network_fit false i (x ∷ xs) entries fit = refl
network_fit true i (x ∷ xs) entries fit =
    let fit_here : items_fit (Some entry_page) (x ∷ xs) ≡ true = rw (entries refl) at fit in
    let first = both (item_fits entry_page x) _ fit_here in
    go (is_zero (first_number x.values)) (entry_network x (is_entry x first.0))
  where
    go : (b : Bool) → fits (network_rows true) (drop 1 x.values) ≡ true → fits (network_rows b) (if b then drop 1 x.values else []) ≡ true
    go true is = is
    go false is = refl

pub element_fits : (p : TablePage) (t : TableHolding) → IsLaid p t
    → fits (element_rows p (begins_with_zero p.one_zero t.body.items)) (element_values p t) ≡ true
element_fits p t laid =
    let parts = fit_parts p t laid.fits in
    let facts = named_facts p.name p laid.known in
    let b = begins_with_zero p.one_zero t.body.items in
    let network = network_fit p.one_zero p.items t.body.items facts.zero parts.items in
    fits_append (first_rows p) _ (first_values p t.head) _ (first_fit p t parts)
    (fits_append p.common _ _ _ parts.common
    (fits_append (kept_rows p.keeps_numbers) _ (kept_values t.head.numbers) _ (kept_fit p.keeps_numbers t.head.numbers parts.numbers)
    (fits_append p.head (network_rows b) _ _ parts.others network)))

-- What holds for every known table.
use Rattle.std.proofs.Common.{◌≡◌, ℕ, Bool, true, false, List, [], ◌∷◌, ◌++◌, ◌^◌, ◌<◌, refl, subst, sym, ap, ◌∙◌, arith}
use Rattle.std.specs.Prelude.{◌&&◌, ◌||◌, Option, Some, None, Ok, find, bytes_eq, nat_eq, nat_le, nat_lt, IsTrue, if◌then◌else◌}
use Rattle.std.proofs.lemmas.Option.{same_Some}
use Rattle.serde_json.specs.Data.{Members}
use Rattle.ts_jtree.specs.Elements.{is_known}
use Rattle.ts_jtree.specs.Shown.{are_within, rows_show}
use Rattle.ts_fields.specs.Fitting.{fits}
use Rattle.ts_fields.specs.Layout.{Row, Held, number, bytes}
use Rattle.ts_shown_pages.specs.Extensions.{extension_named, extensions}
use Rattle.ts_shown_pages.specs.Pages as descrs
use Rattle.ts_shown_pages.specs.Pages.{second_quarter, third_quarter, last_quarter}
use Rattle.ts_json_descr.specs.DescrElements.{generic_name}
use Rattle.ts_table_rows.specs.TablePages.{ItemPage, TablePage, has_id, page_sound}
use Rattle.ts_table_pages.specs.PsiPages.{cat_page, entry_page, pat_page, pmt_page}
use Rattle.ts_table_pages.specs.SiPages.{bat_page, nit_page, sdt_page}
use Rattle.ts_table_pages.specs.EitPages.{eit_page}
use Rattle.ts_json_tables.specs.ElementRows.{actual_row, element_rows, id_rows, kept_rows, long_name, network_key, network_rows, short_name, table_id_row}
use Rattle.ts_json_tables.specs.KnownPages.{page_named, table_pages}
use Rattle.std.proofs.lemmas.Bool.{eq-eqb, eqb-true, le-leb, leb-true}
use Rattle.ts_jtree.specs.Faults.{Reading}
use Rattle.ts_jtree.specs.Attributes.{read_attributes}
use Rattle.ts_json_tables.specs.HeadReading.{only_number, read_id, read_number, read_truth}
use Rattle.ts_json_tables.specs.TableElements.{id_values, truth}
use Rattle.ts_json_tables.proofs.ReadLemmas.{are_plain, read_good}
use Rattle.ts_json_tables.proofs.RowLemmas.{plain}
use Rattle.ts_json_tables.proofs.StepLemmas.{both, same_ok, then_ok}
use Rattle.ts_json_tables.proofs.TruthLemmas.{number_again, truth_read}

-- an item's name is not a descriptor's, and its rows can be shown
pub record ItemFacts (i : ItemPage) : Type 0 where
  pub shows : rows_show i.rows ≡ true
  pub own : bytes_eq i.name generic_name ≡ false
  pub other : descrs.page_named i.name ≡ None
  pub apart : extension_named i.name ≡ None

abbrev pub ItemsFacts : Option ItemPage → Type 0
ItemsFacts None = Unit {0}
ItemsFacts (Some i) = ItemFacts i

-- the rows of items are numbers, flags and times
abbrev pub ItemsPlain : Option ItemPage → Type 0
ItemsPlain None = Unit {0}
ItemsPlain (Some i) = are_plain i.rows ≡ true

-- and have no ranges
abbrev pub ItemsBare : Option ItemPage → Type 0
ItemsBare None = Unit {0}
ItemsBare (Some i) = plain i.rows ≡ true

id_by : (b : Bool) (n id : ℕ) (other : Reading ℕ) → b ≡ true → (if b then Ok n else other) ≡ Ok id → n ≡ id
id_by true n id other is read = same_ok n id read
id_by false n id other is read = cc

-- a table of one table_id
one_id : (n : ℕ) → n < 255 → (ms : Members) (id : ℕ) → read_id ((n, n) ∷ []) ms ≡ Ok id
    → (has_id ((n, n) ∷ []) id ≡ true) × (id < 255)
unfolding read_id
one_id n small ms id is =
    let e = id_by (nat_eq n n) n id _ (eq-eqb n n refl) is in
    subst (λ k. (has_id ((n, n) ∷ []) k ≡ true) × (k < 255)) e (rw (le-leb n n (omega arith)) refl, small)

pub or_no : (b : Bool) → (b || false) ≡ true → b ≡ true
or_no true is = refl
or_no false is = cc

-- its table_id has no attribute
one_again : (n : ℕ) (ms : Members) (id : ℕ) → has_id ((n, n) ∷ []) id ≡ true → read_id ((n, n) ∷ []) ms ≡ Ok id
unfolding read_id
one_again n ms id is =
    let parts = both (nat_le n id) (nat_le id n) (or_no (nat_le n id && nat_le id n) is) in
    let same : n ≡ id = omega (arith, leb-true n id parts.0, leb-true id n parts.1) in
    rw (eq-eqb n n refl) (ap Ok same)

or_yes : (b : Bool) → (b || true) ≡ true
or_yes true = refl
or_yes false = refl

-- a table of two table_ids
two_ids : (n m : ℕ) → n < 255 → m < 255 → (ms : Members) (id : ℕ) → read_id ((n, n) ∷ (m, m) ∷ []) ms ≡ Ok id
    → (has_id ((n, n) ∷ (m, m) ∷ []) id ≡ true) × (id < 255)
unfolding read_id
two_ids n m small small2 ms id is =
    then_ok (read_truth actual_row ms) _ id is (λ actual was later. go actual (same_ok _ id later))
  where
    go : (actual : Bool) → (if actual then n else m) ≡ id → (has_id ((n, n) ∷ (m, m) ∷ []) id ≡ true) × (id < 255)
    go true e =
        subst (λ k. (has_id ((n, n) ∷ (m, m) ∷ []) k ≡ true) × (k < 255)) e (rw (le-leb n n (omega arith)) refl, small)
    go false e =
        subst (λ k. (has_id ((n, n) ∷ (m, m) ∷ []) k ≡ true) × (k < 255)) e
        (rw (le-leb m m (omega arith)) (or_yes (nat_le n m && nat_le m n)), small2)

-- its table_id is given by a Boolean
two_again : (n m : ℕ) (ms : Members) (id : ℕ) → has_id ((n, n) ∷ (m, m) ∷ []) id ≡ true
    → read_attributes (actual_row ∷ []) ms ≡ Ok (truth (nat_eq id n) ∷ []) → read_id ((n, n) ∷ (m, m) ∷ []) ms ≡ Ok id
unfolding read_id
two_again n m ms id is read = rw (truth_read actual_row ms (nat_eq id n) read) (ap Ok (go (nat_eq id n) refl))
  where
    never : false ≡ true → ⊥
    never at = cc

    other : (a b : Bool) → (a || (b || false)) ≡ true → (a ≡ true → id ≡ n) → (b ≡ true → id ≡ m) → (id ≡ n → ⊥) → m ≡ id
    other true b all one two apart = absurd (apart (one refl))
    other false true all one two apart = sym (two refl)
    other false false all one two apart = cc

    same : (k : ℕ) → (nat_le k id && nat_le id k) ≡ true → id ≡ k
    same k at =
        let parts = both (nat_le k id) (nat_le id k) at in
        omega (arith, leb-true k id parts.0, leb-true id k parts.1)

    go : (t : Bool) → nat_eq id n ≡ t → (if t then n else m) ≡ id
    go true e = sym (eqb-true id n e)
    go false e =
        other (nat_le n id && nat_le id n) (nat_le m id && nat_le id m) is (same n) (same m)
        (λ at. never (sym e ∙ eq-eqb id n at))

-- a table of a range of table_ids
range_ids : (n m : ℕ) → nat_eq n m ≡ false → m < 255 → (ms : Members) (id : ℕ) → read_id ((n, m) ∷ []) ms ≡ Ok id
    → (has_id ((n, m) ∷ []) id ≡ true) × (id < 255)
unfolding read_id read_number fits are_within
range_ids n m apart small ms id is =
    let read = rw apart at is in
    then_ok (read_attributes (table_id_row (n, m) ∷ []) ms) _ id read (λ values was later.
    let good = read_good (table_id_row (n, m) ∷ []) ms values refl was in
    told values good.0 good.1 (same_ok (only_number values) id later))
  where
    told : (values : List Held) → fits (table_id_row (n, m) ∷ []) values ≡ true
        → are_within (table_id_row (n, m) ∷ []) values ≡ true → only_number values ≡ id
        → (has_id ((n, m) ∷ []) id ≡ true) × (id < 255)
    told [] fit inside e = cc
    told (bytes b ∷ vs) fit inside e = cc
    told (number k ∷ []) fit inside e =
        let parts = both (nat_le n k && nat_le k m) true inside in
        let last = leb-true k m (both (nat_le n k) (nat_le k m) parts.0).1 in
        subst (λ z. (has_id ((n, m) ∷ []) z ≡ true) × (z < 255)) e (rw parts.0 refl, omega (arith, last, small))
    told (number k ∷ v ∷ vs) fit inside e =
        let parts = both (nat_lt k (2 ^ 8)) _ fit in let no : false ≡ true = parts.1 in cc

-- its table_id is given by the number
range_again : (n m : ℕ) → nat_eq n m ≡ false → (ms : Members) (id : ℕ)
    → read_attributes (id_rows ((n, m) ∷ [])) ms ≡ Ok (id_values ((n, m) ∷ []) id) → read_id ((n, m) ∷ []) ms ≡ Ok id
unfolding read_id
range_again n m apart ms id read =
    let told : read_attributes (table_id_row (n, m) ∷ []) ms ≡ Ok (number id ∷ []) = rw apart at read in
    rw apart (number_again (table_id_row (n, m)) ms id told)

-- the rows after those of the head
abbrev pub rows_after : TablePage → Bool → List Row
rows_after p network = p.common ++ (kept_rows p.keeps_numbers ++ (p.head ++ network_rows network))

pub record Facts (p : TablePage) : Type 0 where
  pub sound : IsTrue (page_sound p)
  pub named : page_named p.name ≡ Some p
  pub no_short : bytes_eq p.name short_name ≡ false
  pub no_long : bytes_eq p.name long_name ≡ false
  pub shows : (network : Bool) → rows_show (element_rows p network) ≡ true
  pub bare : (network : Bool) → plain (rows_after p network) ≡ true
  pub unknown : (ms : Members) → is_known (element_rows p false) ms network_key ≡ false
  pub items : ItemsFacts p.items
  pub zero : p.one_zero ≡ true → p.items ≡ Some entry_page
  pub ids : (ms : Members) (id : ℕ) → read_id p.ids ms ≡ Ok id → (has_id p.ids id ≡ true) × (id < 255)
  pub ids_again : (ms : Members) (id : ℕ) → has_id p.ids id ≡ true → read_attributes (id_rows p.ids) ms ≡ Ok (id_values p.ids id) → read_id p.ids ms ≡ Ok id
  pub common : are_plain p.common ≡ true
  pub head : are_plain p.head ≡ true
  pub plain : ItemsPlain p.items
  pub free : p.one_zero ≡ false → ItemsBare p.items

pat_facts : Facts pat_page
unfolding extensions second_quarter third_quarter last_quarter
pat_facts = record {
  sound = refl;
  named = refl;
  no_short = refl;
  no_long = refl;
  shows = λ network. elim network as (λ b. rows_show (element_rows pat_page b) ≡ true) [ true ↦ refl | false ↦ refl ];
  bare = λ network. elim network as (λ b. plain (rows_after pat_page b) ≡ true) [ true ↦ refl | false ↦ refl ];
  unknown = λ ms. refl;
  items = record { shows = refl; own = refl; other = refl; apart = refl };
  zero = λ is. refl;
  ids = one_id 0x00 (omega arith);
  ids_again = λ ms id is read. one_again 0x00 ms id is;
  common = refl;
  head = refl;
  plain = refl;
  free = λ is. cc;
}

cat_facts : Facts cat_page
unfolding extensions second_quarter third_quarter last_quarter
cat_facts = record {
  sound = refl;
  named = refl;
  no_short = refl;
  no_long = refl;
  shows = λ network. elim network as (λ b. rows_show (element_rows cat_page b) ≡ true) [ true ↦ refl | false ↦ refl ];
  bare = λ network. elim network as (λ b. plain (rows_after cat_page b) ≡ true) [ true ↦ refl | false ↦ refl ];
  unknown = λ ms. refl;
  items = tt;
  zero = λ is. cc;
  ids = one_id 0x01 (omega arith);
  ids_again = λ ms id is read. one_again 0x01 ms id is;
  common = refl;
  head = refl;
  plain = tt;
  free = λ is. tt;
}

pmt_facts : Facts pmt_page
unfolding extensions second_quarter third_quarter last_quarter
pmt_facts = record {
  sound = refl;
  named = refl;
  no_short = refl;
  no_long = refl;
  shows = λ network. elim network as (λ b. rows_show (element_rows pmt_page b) ≡ true) [ true ↦ refl | false ↦ refl ];
  bare = λ network. elim network as (λ b. plain (rows_after pmt_page b) ≡ true) [ true ↦ refl | false ↦ refl ];
  unknown = λ ms. refl;
  items = record { shows = refl; own = refl; other = refl; apart = refl };
  zero = λ is. cc;
  ids = one_id 0x02 (omega arith);
  ids_again = λ ms id is read. one_again 0x02 ms id is;
  common = refl;
  head = refl;
  plain = refl;
  free = λ is. refl;
}

nit_facts : Facts nit_page
unfolding extensions second_quarter third_quarter last_quarter
nit_facts = record {
  sound = refl;
  named = refl;
  no_short = refl;
  no_long = refl;
  shows = λ network. elim network as (λ b. rows_show (element_rows nit_page b) ≡ true) [ true ↦ refl | false ↦ refl ];
  bare = λ network. elim network as (λ b. plain (rows_after nit_page b) ≡ true) [ true ↦ refl | false ↦ refl ];
  unknown = λ ms. refl;
  items = record { shows = refl; own = refl; other = refl; apart = refl };
  zero = λ is. cc;
  ids = two_ids 0x40 0x41 (omega arith) (omega arith);
  ids_again = two_again 0x40 0x41;
  common = refl;
  head = refl;
  plain = refl;
  free = λ is. refl;
}

bat_facts : Facts bat_page
unfolding extensions second_quarter third_quarter last_quarter
bat_facts = record {
  sound = refl;
  named = refl;
  no_short = refl;
  no_long = refl;
  shows = λ network. elim network as (λ b. rows_show (element_rows bat_page b) ≡ true) [ true ↦ refl | false ↦ refl ];
  bare = λ network. elim network as (λ b. plain (rows_after bat_page b) ≡ true) [ true ↦ refl | false ↦ refl ];
  unknown = λ ms. refl;
  items = record { shows = refl; own = refl; other = refl; apart = refl };
  zero = λ is. cc;
  ids = one_id 0x4A (omega arith);
  ids_again = λ ms id is read. one_again 0x4A ms id is;
  common = refl;
  head = refl;
  plain = refl;
  free = λ is. refl;
}

sdt_facts : Facts sdt_page
unfolding extensions second_quarter third_quarter last_quarter
sdt_facts = record {
  sound = refl;
  named = refl;
  no_short = refl;
  no_long = refl;
  shows = λ network. elim network as (λ b. rows_show (element_rows sdt_page b) ≡ true) [ true ↦ refl | false ↦ refl ];
  bare = λ network. elim network as (λ b. plain (rows_after sdt_page b) ≡ true) [ true ↦ refl | false ↦ refl ];
  unknown = λ ms. refl;
  items = record { shows = refl; own = refl; other = refl; apart = refl };
  zero = λ is. cc;
  ids = two_ids 0x42 0x46 (omega arith) (omega arith);
  ids_again = two_again 0x42 0x46;
  common = refl;
  head = refl;
  plain = refl;
  free = λ is. refl;
}

eit_facts : Facts eit_page
unfolding extensions second_quarter third_quarter last_quarter
eit_facts = record {
  sound = refl;
  named = refl;
  no_short = refl;
  no_long = refl;
  shows = λ network. elim network as (λ b. rows_show (element_rows eit_page b) ≡ true) [ true ↦ refl | false ↦ refl ];
  bare = λ network. elim network as (λ b. plain (rows_after eit_page b) ≡ true) [ true ↦ refl | false ↦ refl ];
  unknown = λ ms. refl;
  items = record { shows = refl; own = refl; other = refl; apart = refl };
  zero = λ is. cc;
  ids = range_ids 0x4E 0x6F refl (omega arith);
  ids_again = λ ms id is read. range_again 0x4E 0x6F refl ms id read;
  common = refl;
  head = refl;
  plain = refl;
  free = λ is. refl;
}

abbrev AllFacts : List TablePage → Type 0
AllFacts [] = Unit {0}
AllFacts (p ∷ ps) = Facts p × AllFacts ps

all_facts : AllFacts table_pages
all_facts = (pat_facts, (cat_facts, (pmt_facts, (nit_facts, (bat_facts, (sdt_facts, (eit_facts, tt)))))))

found_first : (q p : TablePage) (b : Bool) (rest : Option TablePage) → (if b then Some q else rest) ≡ Some p
    → Facts q → (rest ≡ Some p → Facts p) → Facts p
found_first q p true rest found here later = subst Facts (same_Some _ _ found) here
found_first q p false rest found here later = later found

facts_in : (test : TablePage → Bool) (ps : List TablePage) (p : TablePage) → AllFacts ps → find test ps ≡ Some p → Facts p
facts_in test [] p all found = cc
facts_in test (q ∷ ps) p all found =
    found_first q p (test q) (find test ps) found all.0 (facts_in test ps p all.1)

pub named_facts : (name : List ℕ) (p : TablePage) → page_named name ≡ Some p → Facts p
named_facts name p found = facts_in (λ q. bytes_eq name q.name) table_pages p all_facts found

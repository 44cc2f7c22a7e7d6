-- Each table_id is one known table's, whose sections form runs.
use Rattle.std.proofs.Common.{◌≡◌, ℕ, ◌<◌, ◌≤◌, Bool, true, false, List, [], ◌∷◌, refl, ◌∙◌, subst, arith, inl, inr}
use Rattle.std.specs.Prelude.{◌&&◌, ◌||◌, Option, Some, find, bytes_eq, nat_le, if◌then◌else◌}
use Rattle.std.proofs.lemmas.Bool.{and_right, cond-false, cond-true, leb-true, lt-leb, or_cases, or_from}
use Rattle.std.proofs.lemmas.Option.{same_Some}
use Rattle.ts_table_rows.specs.RoundTrip.{forms_runs}
use Rattle.ts_table_rows.specs.TablePages.{TablePage, has_id}
use Rattle.ts_table_pages.specs.PsiPages.{cat_page, pat_page, pmt_page}
use Rattle.ts_table_pages.specs.SiPages.{bat_page, nit_page, sdt_page}
use Rattle.ts_table_pages.specs.EitPages.{eit_page}
use Rattle.ts_json_tables.specs.KnownPages.{page_named, page_with_id, table_pages}
use Rattle.ts_json_tables.proofs.KnownLemmas.{or_no}
use Rattle.ts_json_tables.proofs.StepLemmas.{both}

-- what holds for every known table: its table_ids belong to no other, its sections form runs and are small, and one
-- that keeps its numbers has one section
pub record IdFacts (p : TablePage) : Type 0 where
  pub own : (id : ℕ) → has_id p.ids id ≡ true → page_with_id id ≡ Some p
  pub runs : forms_runs p ≡ true
  pub most : p.most ≤ 4093
  pub keeps : p.keeps_numbers ≡ true → p.single ≡ true

same_id : (n id : ℕ) → (nat_le n id && nat_le id n) ≡ true → n ≡ id
same_id n id is =
    let parts = both (nat_le n id) (nat_le id n) is in
    omega (arith, leb-true n id parts.0, leb-true id n parts.1)

-- a table of one table_id, and one of two
one_own : (n : ℕ) (p : TablePage) → page_with_id n ≡ Some p → (id : ℕ) → has_id ((n, n) ∷ []) id ≡ true → page_with_id id ≡ Some p
one_own n p here id is = subst (λ k. page_with_id k ≡ Some p) (same_id n id (or_no (nat_le n id && nat_le id n) is)) here

two_own : (n m : ℕ) (p : TablePage) → page_with_id n ≡ Some p → page_with_id m ≡ Some p → (id : ℕ)
    → has_id ((n, n) ∷ (m, m) ∷ []) id ≡ true → page_with_id id ≡ Some p
two_own n m p first second id is =
    elim (or_cases (nat_le n id && nat_le id n) ((nat_le m id && nat_le id m) || false) is) [
      | inl here ↦ subst (λ k. page_with_id k ≡ Some p) (same_id n id here) first
      | inr there ↦ one_own m p second id there
    ]

-- a table_id above the last of a table's
above_one : (n id : ℕ) → n < id → has_id ((n, n) ∷ []) id ≡ false
above_one n id above = or_from (nat_le n id && nat_le id n) false (and_right (nat_le n id) (nat_le id n) (lt-leb id n above)) refl

above_two : (n m id : ℕ) → n < id → m < id → has_id ((n, n) ∷ (m, m) ∷ []) id ≡ false
above_two n m id above also =
    or_from (nat_le n id && nat_le id n) ((nat_le m id && nat_le id m) || false)
    (and_right (nat_le n id) (nat_le id n) (lt-leb id n above)) (above_one m id also)

skip : (test : TablePage → Bool) (q : TablePage) (ps : List TablePage) → test q ≡ false → find test (q ∷ ps) ≡ find test ps
skip test q ps is = cond-false (test q) (Some q) (find test ps) is

hit : (test : TablePage → Bool) (q : TablePage) (ps : List TablePage) → test q ≡ true → find test (q ∷ ps) ≡ Some q
hit test q ps is = cond-true (test q) (Some q) (find test ps) is

eit_own : (id : ℕ) → has_id ((0x4E, 0x6F) ∷ []) id ≡ true → page_with_id id ≡ Some eit_page
eit_own id is =
    let test : TablePage → Bool = λ q. has_id q.ids id in
    let low : 78 ≤ id = leb-true 78 id (both (nat_le 78 id) (nat_le id 111) (or_no (nat_le 78 id && nat_le id 111) is)).0 in
    let six : List TablePage = eit_page ∷ [] in
    let five : List TablePage = sdt_page ∷ six in
    let four : List TablePage = bat_page ∷ five in
    let three : List TablePage = nit_page ∷ four in
    let two : List TablePage = pmt_page ∷ three in
    skip test pat_page (cat_page ∷ two) (above_one 0 id (omega arith))
    ∙ skip test cat_page two (above_one 1 id (omega arith))
    ∙ skip test pmt_page three (above_one 2 id (omega arith))
    ∙ skip test nit_page four (above_two 0x40 0x41 id (omega arith) (omega arith))
    ∙ skip test bat_page five (above_one 0x4A id (omega arith))
    ∙ skip test sdt_page six (above_two 0x42 0x46 id (omega arith) (omega arith))
    ∙ hit test eit_page [] is

abbrev AllIds : List TablePage → Type 0
AllIds [] = Unit {0}
AllIds (p ∷ ps) = IdFacts p × AllIds ps

all_ids : AllIds table_pages
all_ids = (
  record { own = one_own 0x00 pat_page refl; runs = refl; most = omega arith; keeps = λ is. cc },
  (
    record { own = one_own 0x01 cat_page refl; runs = refl; most = omega arith; keeps = λ is. cc },
    (
      record { own = one_own 0x02 pmt_page refl; runs = refl; most = omega arith; keeps = λ is. refl },
      (
        record { own = two_own 0x40 0x41 nit_page refl refl; runs = refl; most = omega arith; keeps = λ is. cc },
        (
          record { own = one_own 0x4A bat_page refl; runs = refl; most = omega arith; keeps = λ is. cc },
          (
            record { own = two_own 0x42 0x46 sdt_page refl refl; runs = refl; most = omega arith; keeps = λ is. cc },
            (record { own = eit_own; runs = refl; most = omega arith; keeps = λ is. refl }, tt),
          ),
        ),
      ),
    ),
  ),
)

found_first : (q p : TablePage) (b : Bool) (rest : Option TablePage) → (if b then Some q else rest) ≡ Some p
    → IdFacts q → (rest ≡ Some p → IdFacts p) → IdFacts p
found_first q p true rest found here later = subst IdFacts (same_Some _ _ found) here
found_first q p false rest found here later = later found

facts_in : (test : TablePage → Bool) (ps : List TablePage) (p : TablePage) → AllIds ps → find test ps ≡ Some p → IdFacts p
facts_in test [] p all found = cc
facts_in test (q ∷ ps) p all found = found_first q p (test q) (find test ps) found all.0 (facts_in test ps p all.1)

pub named_ids : (name : List ℕ) (p : TablePage) → page_named name ≡ Some p → IdFacts p
named_ids name p found = facts_in (λ q. bytes_eq name q.name) table_pages p all_ids found

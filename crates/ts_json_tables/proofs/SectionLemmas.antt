-- Sections of the long form by their bodies.
use Rattle.std.proofs.Common.{◌≡◌, ℕ, zero, suc, ◌+◌, ◌-◌, ◌<◌, ◌≤◌, Bool, true, false, List, [], ◌∷◌, ◌++◌, length, drop, get_or, map, refl, sym, ap, ◌∙◌, arith, append_assoc, append-nil, subst}
use Rattle.std.specs.Prelude.{nat_le, nat_lt, if◌then◌else◌}
use Rattle.std.specs.List.{list_all}
use Rattle.std.proofs.lemmas.Bool.{leb-true, ltb-true, eqb-true}
use Rattle.std.proofs.lemmas.List.{drop_more, drop_all}
use Rattle.ts_section.specs.WrittenSection.{long_section}
use Rattle.ts_json_tables.specs.ElementRows.{is_eit_id}
use Rattle.ts_json_tables.specs.HeldTables.{LongHolding}
use Rattle.ts_json_tables.specs.ValidTables.{is_long, is_payload, numbers_kept}
use Rattle.ts_json_tables.specs.RunTables.{long_head, long_sections, numbered, numbers_used}
use Rattle.ts_json_tables.specs.TableReading.{is_valid_count}
use Rattle.ts_json_tables.proofs.StepLemmas.{both}

-- what sections of the long form have
pub record LongFacts (l : LongHolding) : Type 0 where
  pub version : l.version < 32
  pub id : l.table_id < 255
  pub counted : (numbers_used l).0 + length l.payloads ≤ (numbers_used l).1 + 1
  pub last : (numbers_used l).1 < 256
  pub bodies : list_all (is_payload 4084) l.payloads ≡ true

counted_by : (eit : Bool) (n : ℕ × ℕ) (count : ℕ) → numbers_kept eit n ≡ true → is_valid_count eit count ≡ true
    → ((if eit then n else (0, count - 1)).0 + count ≤ (if eit then n else (0, count - 1)).1 + 1) × ((if eit then n else (0, count - 1)).1 < 256)
counted_by true n count kept few =
    let parts = both (nat_le n.0 n.1) (nat_lt n.1 256) kept in
    let one = eqb-true count 1 few in
    let order = leb-true n.0 n.1 parts.0 in
    (omega (arith, one, order), ltb-true n.1 256 parts.1)
counted_by false n count kept few =
    let parts = both (nat_le 1 count) (nat_le count 256) few in
    let some = leb-true 1 count parts.0 in
    let most = leb-true count 256 parts.1 in
    (omega (arith, some), omega (arith, some, most))

pub long_facts : (l : LongHolding) → is_long l ≡ true → LongFacts l
long_facts l is =
    let a = both (nat_lt l.version 32) _ is in
    let b = both (nat_lt l.table_id 255) _ a.1 in
    let c = both (nat_lt l.extension 65536) _ b.1 in
    let d = both (numbers_kept (is_eit_id l.table_id) l.numbers) _ c.1 in
    let e = both (is_valid_count (is_eit_id l.table_id) (length l.payloads)) (list_all (is_payload 4084) l.payloads) d.1 in
    let counts = counted_by (is_eit_id l.table_id) l.numbers (length l.payloads) d.0 e.0 in
    record {
      version = ltb-true l.version 32 a.0;
      id = ltb-true l.table_id 255 b.0;
      counted = counts.0;
      last = counts.1;
      bodies = e.1;
    }

left_of : {Y : Type 0} (f : Y → List ℕ) (ys : List Y) (i : ℕ) (y : Y) → i < length ys → y ≡ get_or ys i y
    → map f (drop i ys) ≡ f y ∷ map f (drop (i + 1) ys)
left_of f ys i y inside same =
    ap (map f) (drop_more ys i y inside) ∙ sym (ap (λ z. f z ∷ map f (drop (i + 1) ys)) same)

numbered_one : (l : LongHolding) (last number : ℕ) (row : List ℕ) (rows : List (List ℕ))
    → numbered l last number (row ∷ rows) ≡ long_section (long_head l last number) row ∷ numbered l last (number + 1) rows
unfolding numbered
numbered_one l last number row rows = refl

pub numbered_goes_on : {Y : Type 0} (f : Y → List ℕ) (l : LongHolding) (last number : ℕ) (front : List (List ℕ))
    (s : List ℕ) (ys : List Y) (i : ℕ) (y : Y) (whole : List (List ℕ)) → i < length ys → y ≡ get_or ys i y
    → s ≡ long_section (long_head l last number) (f y)
    → front ++ numbered l last number (map f (drop i ys)) ≡ whole
    → (front ++ s ∷ []) ++ numbered l last (number + 1) (map f (drop (i + 1) ys)) ≡ whole
numbered_goes_on f l last number front s ys i y whole inside same is so_far =
    append_assoc front (s ∷ []) (numbered l last (number + 1) (map f (drop (i + 1) ys)))
    ∙ ap (λ x. front ++ x ∷ numbered l last (number + 1) (map f (drop (i + 1) ys))) is
    ∙ ap (λ x. front ++ x) (sym (numbered_one l last number (f y) (map f (drop (i + 1) ys))))
    ∙ ap (λ x. front ++ numbered l last number x) (sym (left_of f ys i y inside same))
    ∙ so_far

pub numbered_done : {Y : Type 0} (f : Y → List ℕ) (l : LongHolding) (last number : ℕ) (front : List (List ℕ))
    (ys : List Y) (i : ℕ) (whole : List (List ℕ)) → length ys ≤ i
    → front ++ numbered l last number (map f (drop i ys)) ≡ whole → front ≡ whole
unfolding numbered
numbered_done f l last number front ys i whole all so_far =
    sym (append-nil front) ∙ ap (λ x. front ++ numbered l last number (map f x)) (sym (drop_all i ys all)) ∙ so_far

pub row_fits : {Y : Type 0} (f : Y → List ℕ) (ys : List Y) (i : ℕ) (y : Y) → list_all (is_payload 4084) (map f ys) ≡ true
    → i < length ys → y ≡ get_or ys i y → length (f y) ≤ 4084
row_fits f [] i y all inside same = absurd (omega arith)
row_fits f (x ∷ ys) zero y all inside same =
    let first = both (is_payload 4084 (f x)) (list_all (is_payload 4084) (map f ys)) all in
    subst (λ z. length (f z) ≤ 4084) (sym same) (leb-true (length (f x)) 4084 first.0)
row_fits f (x ∷ ys) (suc i) y all inside same =
    row_fits f ys i y (both (is_payload 4084 (f x)) (list_all (is_payload 4084) (map f ys)) all).1 (omega arith) same

pub numbered_whole : (l : LongHolding) (n : ℕ × ℕ) → n ≡ numbers_used l → long_sections l ≡ numbered l n.1 n.0 l.payloads
numbered_whole l n is = ap (λ m. numbered l m.1 m.0 l.payloads) (sym is)

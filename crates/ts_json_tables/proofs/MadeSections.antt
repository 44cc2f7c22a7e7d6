-- Sections of the long form that are built from heads and bodies, one after another.
use Rattle.std.proofs.Common.{◌≡◌, ℕ, zero, suc, ◌+◌, ◌-◌, ◌<◌, ◌≤◌, true, List, [], ◌∷◌, length, take, drop, get_or, refl, ap, subst, arith}
use Rattle.std.specs.Prelude.{All, nat_lt}
use Rattle.std.specs.List.{list_all}
use Rattle.std.proofs.lemmas.Bool.{leb-true, ltb-true}
use Rattle.std.proofs.lemmas.List.{length-drop, length-take-le}
use Rattle.std.proofs.lemmas.List.Elements.{All-cons, All-from_get_or, All-nil}
use Rattle.ts_fields.specs.Fitting.{are_bytes}
use Rattle.ts_section.specs.declared.long_head.LongHead.{LongHead}
use Rattle.ts_section.specs.ValidSection.{IsSection}
use Rattle.ts_section.specs.SectionFields.{body_of, is_long, section_length_of}
use Rattle.ts_section.specs.WrittenSection.{IsLongSectionOf, long_section}
use Rattle.ts_table_rows.specs.declared.table.TableHead.{TableHead}
use Rattle.ts_table_rows.specs.TablePages.{TablePage}
use Rattle.ts_table_rows.specs.TableSections as writing
use Rattle.ts_table_rows.specs.TableSections.{head_with}
use Rattle.ts_json_tables.specs.HeldTables.{LongHolding}
use Rattle.ts_json_tables.specs.ValidTables.{is_payload}
use Rattle.ts_json_tables.specs.RunTables.{long_head, numbered}
use Rattle.ts_json_tables.proofs.StepLemmas.{both}

-- what the layer below ensures of sections that are built
abbrev pub MadeValid : Type 0
MadeValid = (head : LongHead) (body : List ℕ) → head.table_id < 255 → head.extension < 65536 → head.version < 32 → head.number ≤ head.last
    → head.last < 256 → All (λ x. x < 256) body → length body ≤ 4084 → IsLongSectionOf head body (long_section head body)

-- the sections of some bodies, each of the head with its number
unfoldable pub made_by : (ℕ → LongHead) → ℕ → List (List ℕ) → List (List ℕ)
made_by head number [] = []
made_by head number (row ∷ rows) = long_section (head number) row ∷ made_by head (number + 1) rows

pub numbered_made : (l : LongHolding) (last number : ℕ) (rows : List (List ℕ)) → numbered l last number rows ≡ made_by (long_head l last) number rows
unfolding numbered made_by
numbered_made l last number [] = refl
numbered_made l last number (row ∷ rows) = ap (λ ss. long_section (long_head l last number) row ∷ ss) (numbered_made l last (number + 1) rows)

pub rows_made : (p : TablePage) (h : TableHead) (last number : ℕ) (bodies : List (List ℕ)) → writing.numbered p h last number bodies ≡ made_by (head_with p h last) number bodies
unfolding writing.numbered made_by
rows_made p h last number [] = refl
rows_made p h last number (row ∷ bodies) = ap (λ ss. long_section (head_with p h last number) row ∷ ss) (rows_made p h last (number + 1) bodies)

-- heads of one table, within their ranges
pub record AreHeads (head : ℕ → LongHead) (most : ℕ) : Type 0 where
  pub id : (n : ℕ) → (head n).table_id < 255
  pub extension : (n : ℕ) → (head n).extension < 65536
  pub version : (n : ℕ) → (head n).version < 32
  pub number : (n : ℕ) → (head n).number ≡ n
  pub last : (n : ℕ) → (head n).last ≡ most
  pub small : most < 256

pub small_bytes : (row : List ℕ) → are_bytes row ≡ true → All (λ x. x < 256) row
small_bytes [] is = All-nil (λ x. x < 256)
small_bytes (x ∷ row) is =
    let parts = both (nat_lt x 256) (are_bytes row) is in
    All-cons (λ y. y < 256) x row (ltb-true x 256 parts.0) (small_bytes row parts.1)

one_made : MadeValid → (head : ℕ → LongHead) (last number : ℕ) (row : List ℕ) → AreHeads head last → number ≤ last → is_payload 4084 row ≡ true
    → are_bytes row ≡ true → IsLongSectionOf (head number) row (long_section (head number) row)
one_made law head last number row heads within small bytes =
    law (head number) row (heads.id number) (heads.extension number) (heads.version number) (omega (arith, heads.number number, heads.last number, within))
    (omega (arith, heads.last number, heads.small)) (small_bytes row bytes) (leb-true (length row) 4084 small)

pub made_length : (head : ℕ → LongHead) (number : ℕ) (rows : List (List ℕ)) → length (made_by head number rows) ≡ length rows
unfolding made_by
made_length head number [] = refl
made_length head number (row ∷ rows) = ap suc (made_length head (number + 1) rows)

-- the section at a place
pub made_at : MadeValid → (head : ℕ → LongHead) (last number : ℕ) (rows : List (List ℕ)) → AreHeads head last → number + length rows ≤ last + 1
    → list_all (is_payload 4084) rows ≡ true → list_all are_bytes rows ≡ true → (k : ℕ) → k < length rows
    → IsLongSectionOf (head (number + k)) (get_or rows k []) (get_or (made_by head number rows) k [])
unfolding made_by
made_at law head last number [] heads room small bytes k inside = absurd (omega (arith, inside))
made_at law head last number (row ∷ rows) heads room small bytes zero inside =
    let a = both (is_payload 4084 row) (list_all (is_payload 4084) rows) small in
    let b = both (are_bytes row) (list_all are_bytes rows) bytes in
    let same : number ≡ number + 0 = omega arith in
    subst (λ n. IsLongSectionOf (head n) row (long_section (head number) row)) same (one_made law head last number row heads (omega (arith, room)) a.0 b.0)
made_at law head last number (row ∷ rows) heads room small bytes (suc k) inside =
    let a = both (is_payload 4084 row) (list_all (is_payload 4084) rows) small in
    let b = both (are_bytes row) (list_all are_bytes rows) bytes in
    let same : (number + 1) + k ≡ number + suc k = omega arith in
    subst (λ n. IsLongSectionOf (head n) (get_or rows k []) (get_or (made_by head (number + 1) rows) k [])) same
    (made_at law head last (number + 1) rows heads (omega (arith, room)) a.1 b.1 k (omega (arith, inside)))

pub all_made : MadeValid → (head : ℕ → LongHead) (last number : ℕ) (rows : List (List ℕ)) → AreHeads head last → number + length rows ≤ last + 1
    → list_all (is_payload 4084) rows ≡ true → list_all are_bytes rows ≡ true → All (λ s. IsSection s) (made_by head number rows)
all_made law head last number rows heads room small bytes =
    All-from_get_or (λ s. IsSection s) (made_by head number rows) []
    (λ k inside. (made_at law head last number rows heads room small bytes k (omega (arith, inside, made_length head number rows))).valid)

-- a section of the long form has nine bytes in addition to its body
pub long_size : (b : List ℕ) → IsSection b → is_long b ≡ true → section_length_of b ≡ 9 + length (body_of b)
long_size b s form =
    let long = s.long form in
    let own : body_of b ≡ drop 8 (take (length b - 4) b) = rw form refl in
    let front : length b - 4 ≤ length b = omega arith in
    omega (arith, ap length own, length-drop 8 (take (length b - 4) b), length-take-le (length b - 4) b front, s.whole, long.room)

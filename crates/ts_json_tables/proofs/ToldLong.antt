-- The sections of a table given by its bytes give it, and are read as those of the same table.
use Rattle.std.proofs.Common.{◌≡◌, ℕ, suc, ◌+◌, ◌-◌, ◌<◌, Bool, true, false, List, [], ◌∷◌, length, get_or, map, refl, sym, ap, ◌∙◌, subst, arith, inl, inr}
use Rattle.std.specs.Prelude.{All, Option, Some, None, Result, Ok, Err, nat_eq, nat_le, nat_lt, if◌then◌else◌}
use Rattle.std.specs.List.{list_all}
use Rattle.std.proofs.lemmas.Bool.{eqb-true, leb-true, ltb-true}
use Rattle.ts_fields.specs.Fitting.{are_bytes}
use Rattle.ts_section.specs.ValidSection.{IsSection}
use Rattle.ts_section.specs.SectionFields.{body_of, current_of, extension_of, is_long, last_number_of, number_of, private_of, table_id_of, version_of}
use Rattle.ts_section.specs.SectionRun.{AllMembers, IsMember, IsTableRun, stands_alone}
use Rattle.ts_section.specs.WrittenSection.{IsLongSectionOf}
use Rattle.ts_table_rows.specs.RunReading.{FirstBroken, read_run}
use Rattle.ts_table_rows.specs.TablePages.{TablePage}
use Rattle.ts_table_rows.specs.TableValues.{TableHolding}
use Rattle.ts_json_tables.specs.ElementRows.{is_eit_id}
use Rattle.ts_json_tables.specs.HeldTables.{LongHolding, long, short}
use Rattle.ts_json_tables.specs.KnownPages.{page_with_id}
use Rattle.ts_json_tables.specs.ValidTables.{is_payload, numbers_kept}
use Rattle.ts_json_tables.specs.ValidTables as valid
use Rattle.ts_json_tables.specs.RunTables.{bytes_table, kept_numbers, long_head, long_of, long_sections, numbers_used, read_or_bytes, short_of, table_by, table_of_run}
use Rattle.ts_json_tables.specs.TableReading.{is_valid_count}
use Rattle.ts_json_tables.specs.ToldTables.{TellsTable, laid_or_long, long_by_page, told_again}
use Rattle.ts_json_tables.proofs.MadeSections.{AreHeads, MadeValid, all_made, made_at, made_by, made_length, numbered_made}
use Rattle.ts_json_tables.proofs.SectionLemmas.{LongFacts, long_facts}
use Rattle.ts_json_tables.proofs.StepLemmas.{both}

-- ---- sections of the long form

pub record LongParts (l : LongHolding) : Type 0 where
  pub facts : LongFacts l
  pub extension : l.extension < 65536
  pub numbers : numbers_kept (is_eit_id l.table_id) l.numbers ≡ true
  pub count : is_valid_count (is_eit_id l.table_id) (length l.payloads) ≡ true

pub long_parts : (l : LongHolding) → valid.is_long l ≡ true → LongParts l
long_parts l is =
    let a = both (nat_lt l.version 32) _ is in
    let b = both (nat_lt l.table_id 255) _ a.1 in
    let c = both (nat_lt l.extension 65536) _ b.1 in
    let d = both (numbers_kept (is_eit_id l.table_id) l.numbers) _ c.1 in
    let e = both (is_valid_count (is_eit_id l.table_id) (length l.payloads)) (list_all (is_payload 4084) l.payloads) d.1 in
    record { facts = long_facts l is; extension = ltb-true l.extension 65536 c.0; numbers = d.0; count = e.0 }

long_heads : (l : LongHolding) → LongParts l → AreHeads (long_head l (numbers_used l).1) (numbers_used l).1
long_heads l parts = record {
  id = λ n. parts.facts.id;
  extension = λ n. parts.extension;
  version = λ n. parts.facts.version;
  number = λ n. refl;
  last = λ n. refl;
  small = parts.facts.last;
}

long_made : (l : LongHolding) → long_sections l ≡ made_by (long_head l (numbers_used l).1) (numbers_used l).0 l.payloads
long_made l = numbered_made l (numbers_used l).1 (numbers_used l).0 l.payloads

pub long_count : (l : LongHolding) → length (long_sections l) ≡ length l.payloads
long_count l = ap length (long_made l) ∙ made_length (long_head l (numbers_used l).1) (numbers_used l).0 l.payloads

-- a section of the table
pub long_at : MadeValid → (l : LongHolding) → LongParts l → list_all are_bytes l.payloads ≡ true → (k : ℕ) → k < length l.payloads
    → IsLongSectionOf (long_head l (numbers_used l).1 ((numbers_used l).0 + k)) (get_or l.payloads k []) (get_or (long_sections l) k [])
long_at law l parts bytes k inside =
    subst (λ ss. IsLongSectionOf (long_head l (numbers_used l).1 ((numbers_used l).0 + k)) (get_or l.payloads k []) (get_or ss k [])) (sym (long_made l))
    (made_at law (long_head l (numbers_used l).1) (numbers_used l).1 (numbers_used l).0 l.payloads (long_heads l parts) parts.facts.counted parts.facts.bodies bytes k inside)

long_all : MadeValid → (l : LongHolding) → LongParts l → list_all are_bytes l.payloads ≡ true → All (λ s. IsSection s) (long_sections l)
long_all law l parts bytes =
    subst (All (λ s. IsSection s)) (sym (long_made l))
    (all_made law (long_head l (numbers_used l).1) (numbers_used l).1 (numbers_used l).0 l.payloads (long_heads l parts) parts.facts.counted parts.facts.bodies bytes)

alone_by : (s : List ℕ) (id : ℕ) → is_long s ≡ true → table_id_of s ≡ id → stands_alone s ≡ is_eit_id id
alone_by s id form same = rw (form, same) refl

-- their bodies
bodies_by : (ss rows : List (List ℕ)) → length ss ≡ length rows → ((k : ℕ) → k < length rows → body_of (get_or ss k []) ≡ get_or rows k []) → map body_of ss ≡ rows
bodies_by [] [] count each = refl
bodies_by [] (row ∷ rows) count each = absurd (omega (arith, count))
bodies_by (s ∷ ss) [] count each = absurd (omega (arith, count))
bodies_by (s ∷ ss) (row ∷ rows) count each =
    ap (λ b. b ∷ map body_of ss) (each 0 (omega arith)) ∙ ap (λ l. row ∷ l) (bodies_by ss rows (omega (arith, count)) (λ k inside. each (suc k) (omega (arith, inside))))

-- the first section, and that there is one
record FirstMade (l : LongHolding) (run : List (List ℕ)) : Type 0 where
  first : List ℕ
  rest : List (List ℕ)
  are : run ≡ first ∷ rest
  form : is_long first ≡ true
  own : private_of first ≡ l.own
  id : table_id_of first ≡ l.table_id
  extension : extension_of first ≡ l.extension
  version : version_of first ≡ l.version
  current : current_of first ≡ l.current
  number : number_of first ≡ (numbers_used l).0
  last : last_number_of first ≡ (numbers_used l).1

some_payloads : (eit : Bool) (count : ℕ) → is_valid_count eit count ≡ true → 0 < count
some_payloads true count is = let one = eqb-true count 1 is in omega (arith, one)
some_payloads false count is = let least = leb-true 1 count (both (nat_le 1 count) (nat_le count 256) is).0 in omega (arith, least)

first_by : (l : LongHolding) (run : List (List ℕ)) → 0 < length run → IsLongSectionOf (long_head l (numbers_used l).1 ((numbers_used l).0 + 0)) (get_or l.payloads 0 []) (get_or run 0 [])
    → FirstMade l run
first_by l [] some made = absurd (omega (arith, some))
first_by l (s ∷ rest) some made = record {
  first = s;
  rest = rest;
  are = refl;
  form = made.long;
  own = ap (λ f. f.private) made.same_head;
  id = ap (λ f. f.table_id) made.same_head;
  extension = ap (λ f. f.extension) made.same_head;
  version = ap (λ f. f.version) made.same_head;
  current = ap (λ f. f.current) made.same_head;
  number = (let none : (numbers_used l).0 + 0 ≡ (numbers_used l).0 = omega arith in ap (λ f. f.number) made.same_head ∙ none);
  last = ap (λ f. f.last) made.same_head;
}

long_first : MadeValid → (l : LongHolding) → LongParts l → list_all are_bytes l.payloads ≡ true → FirstMade l (long_sections l)
long_first law l parts bytes =
    let some = some_payloads (is_eit_id l.table_id) (length l.payloads) parts.count in
    first_by l (long_sections l) (omega (arith, some, long_count l)) (long_at law l parts bytes 0 some)

-- ---- they are a whole run

long_member : MadeValid → (l : LongHolding) (parts : LongParts l) → list_all are_bytes l.payloads ≡ true → (first : List ℕ) → is_eit_id l.table_id ≡ false
    → table_id_of first ≡ l.table_id → extension_of first ≡ l.extension → version_of first ≡ l.version → current_of first ≡ l.current
    → last_number_of first ≡ length l.payloads - 1 → (k : ℕ) → k < length l.payloads → IsMember first k (get_or (long_sections l) k [])
long_member law l parts bytes first other id extension version current last k inside =
    let made = long_at law l parts bytes k inside in
    let used : numbers_used l ≡ (0, length l.payloads - 1) = rw other refl in
    let number : number_of (get_or (long_sections l) k []) ≡ (numbers_used l).0 + k = ap (λ f. f.number) made.same_head in
    record {
      together = alone_by (get_or (long_sections l) k []) l.table_id made.long (ap (λ f. f.table_id) made.same_head) ∙ other;
      same_id = ap (λ f. f.table_id) made.same_head ∙ sym id;
      same_extension = ap (λ f. f.extension) made.same_head ∙ sym extension;
      same_version = ap (λ f. f.version) made.same_head ∙ sym version;
      same_current = ap (λ f. f.current) made.same_head ∙ sym current;
      same_last = ap (λ f. f.last) made.same_head ∙ ap (λ n. n.1) used ∙ sym last;
      numbered = number ∙ ap (λ n. n.0 + k) used ∙ omega arith;
      counted = omega (arith, last, inside);
    }

no_more : (s : List ℕ) (rest : List (List ℕ)) → length (s ∷ rest) ≡ 1 → rest ≡ []
no_more s [] one = refl
no_more s (t ∷ rest) one = absurd (omega (arith, one))

whole_by : MadeValid → (l : LongHolding) (parts : LongParts l) → list_all are_bytes l.payloads ≡ true → (run : List (List ℕ)) → run ≡ long_sections l
    → FirstMade l run → (eit : Bool) → is_eit_id l.table_id ≡ eit → is_valid_count eit (length l.payloads) ≡ true → IsTableRun run
whole_by law l parts bytes run same first true eit count =
    let one : length (first.first ∷ first.rest) ≡ 1 = ap length (sym first.are) ∙ ap length same ∙ long_count l ∙ eqb-true (length l.payloads) 1 count in
    subst IsTableRun (sym first.are) (inl (alone_by first.first l.table_id first.form first.id ∙ eit, no_more first.first first.rest one))
whole_by law l parts bytes run same first false other count =
    let used : numbers_used l ≡ (0, length l.payloads - 1) = rw other refl in
    let last : last_number_of first.first ≡ length l.payloads - 1 = first.last ∙ ap (λ n. n.1) used in
    let some = some_payloads false (length l.payloads) count in
    let are : long_sections l ≡ first.first ∷ first.rest = sym same ∙ first.are in
    let size : length (first.first ∷ first.rest) ≡ length l.payloads = ap length (sym are) ∙ long_count l in
    let members : AllMembers first.first (first.first ∷ first.rest) =
    subst (AllMembers first.first) are (λ k inside. long_member law l parts bytes first.first other first.id first.extension first.version first.current last k (omega (arith, inside, long_count l))) in
    subst IsTableRun (sym first.are) (inr (members, omega (arith, size, last, some)))

-- ---- they give the table

abbrev long_with : ℕ → Bool → ℕ → ℕ → Bool → ℕ × ℕ → List (List ℕ) → LongHolding
long_with version current id extension own numbers payloads =
    record { version = version; current = current; table_id = id; extension = extension; own = own; numbers = numbers; payloads = payloads }

same_long : (a a' : ℕ) (b b' : Bool) (c c' d d' : ℕ) (e e' : Bool) (f f' : ℕ × ℕ) (g g' : List (List ℕ)) → a ≡ a' → b ≡ b' → c ≡ c' → d ≡ d' → e ≡ e' → f ≡ f' → g ≡ g'
    → long_with a b c d e f g ≡ long_with a' b' c' d' e' f' g'
same_long a a' b b' c c' d d' e e' f f' g g' p q r s t u v = cc

numbers_again : (eit : Bool) (n : ℕ × ℕ) (count first last : ℕ) → numbers_kept eit n ≡ true → first ≡ (if eit then n else (0, count - 1)).0 → last ≡ (if eit then n else (0, count - 1)).1
    → (if eit then (first, last) else (0, 0)) ≡ n
numbers_again true n count first last kept one two = ap (λ x. (x, last)) one ∙ ap (λ x. (n.0, x)) two
numbers_again false n count first last kept one two =
    let parts = both (nat_eq n.0 0) (nat_eq n.1 0) kept in
    ap (λ x. (x, 0)) (sym (eqb-true n.0 0 parts.0)) ∙ ap (λ x. (n.0, x)) (sym (eqb-true n.1 0 parts.1))

bytes_told : (l : LongHolding) (run : List (List ℕ)) → LongParts l → FirstMade l run → map body_of run ≡ l.payloads → bytes_table run ≡ long l
bytes_told l run parts first bodies =
    let s = first.first in
    let all : map body_of (s ∷ first.rest) ≡ l.payloads = ap (map body_of) (sym first.are) ∙ bodies in
    let kept : kept_numbers s ≡ l.numbers =
    ap (λ i. if is_eit_id i then (number_of s, last_number_of s) else (0, 0)) first.id
    ∙ numbers_again (is_eit_id l.table_id) l.numbers (length l.payloads) (number_of s) (last_number_of s) parts.numbers first.number first.last in
    ap bytes_table first.are
    ∙ ap (λ b. if b then long (long_of s (s ∷ first.rest)) else short (short_of s)) first.form
    ∙ ap long (same_long _ l.version _ l.current _ l.table_id _ l.extension _ l.own _ l.numbers _ l.payloads first.version first.current first.id first.extension first.own kept all)

by_reading : (p : TablePage) (r : Result TableHolding FirstBroken) (run : List (List ℕ)) (l : LongHolding) → bytes_table run ≡ long l → read_or_bytes p r run ≡ laid_or_long p r l
by_reading p (Ok t) run l told = refl
by_reading p (Err fault) run l told = told

by_page : (o : Option TablePage) (run : List (List ℕ)) (l : LongHolding) → run ≡ long_sections l → bytes_table run ≡ long l → table_by o run ≡ long_by_page o l
by_page None run l same told = told
by_page (Some p) run l same told = by_reading p (read_run p run) run l told ∙ ap (λ r. laid_or_long p (read_run p r) l) same

table_by_first : (s : List ℕ) (rest run : List (List ℕ)) → run ≡ s ∷ rest → table_of_run run ≡ table_by (page_with_id (table_id_of s)) run
table_by_first s rest run are = ap table_of_run are ∙ ap (table_by (page_with_id (table_id_of s))) (sym are)

pub long_told : MadeValid → (l : LongHolding) → valid.is_long l ≡ true → list_all are_bytes l.payloads ≡ true → TellsTable (told_again (long l)) (long_sections l)
long_told law l is bytes =
    let parts = long_parts l is in
    let first = long_first law l parts bytes in
    let bodies = bodies_by (long_sections l) l.payloads (long_count l) (λ k inside. (long_at law l parts bytes k inside).same_body) in
    record {
      valid = long_all law l parts bytes;
      whole = whole_by law l parts bytes (long_sections l) refl first (is_eit_id l.table_id) refl parts.count;
      table =
          table_by_first first.first first.rest (long_sections l) first.are
          ∙ ap (λ i. table_by (page_with_id i) (long_sections l)) first.id
          ∙ by_page (page_with_id l.table_id) (long_sections l) l refl (bytes_told l (long_sections l) parts first bodies);
    }

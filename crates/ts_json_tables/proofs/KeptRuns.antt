-- The sections of a run's table give that table.
use Rattle.std.proofs.Common.{◌≡◌, ℕ, ◌+◌, ◌-◌, ◌<◌, Bool, true, false, List, [], ◌∷◌, length, get_or, map, refl, sym, ap, ◌∙◌, subst, arith, inl, inr}
use Rattle.std.specs.Prelude.{All, Option, Some, None, Result, Ok, Err, if◌then◌else◌}
use Rattle.std.specs.List.{list_all}
use Rattle.std.proofs.lemmas.List.{get_or-map, length-map}
use Rattle.std.proofs.lemmas.List.Elements.{All-get_or}
use Rattle.ts_fields.specs.Fitting.{are_bytes}
use Rattle.ts_section.specs.ValidSection.{IsSection}
use Rattle.ts_section.specs.SectionFields.{body_of, current_of, extension_of, is_long, last_number_of, number_of, table_id_of, version_of}
use Rattle.ts_section.specs.SectionRun.{IsTableRun}
use Rattle.ts_table_rows.specs.RunReading.{FirstBroken, read_run}
use Rattle.ts_table_rows.specs.TablePages.{TablePage}
use Rattle.ts_table_rows.specs.TableValues.{TableHolding}
use Rattle.ts_table_rows.specs.declared.fault.TableRefusal.{TableRefusal}
use Rattle.ts_json_tables.specs.ElementRows.{is_eit_id}
use Rattle.ts_json_tables.specs.HeldTables.{LongHolding, TableValue, laid, long, short}
use Rattle.ts_json_tables.specs.KnownPages.{page_with_id}
use Rattle.ts_json_tables.specs.ValidTables.{IsOfBytes, IsTable}
use Rattle.ts_json_tables.specs.RunTables.{bytes_table, long_of, long_sections, numbers_used, read_or_bytes, sections_of_table, short_of, table_by, table_of_run}
use Rattle.ts_json_tables.specs.ToldTables.{IsKept, TellsTable, laid_or_long, long_by_page, told_again}
use Rattle.ts_json_tables.proofs.MadeBodies.{Spelled}
use Rattle.ts_json_tables.proofs.MadeSections.{MadeValid, long_size}
use Rattle.ts_json_tables.proofs.OfBytesLemmas.{bodies_bytes}
use Rattle.ts_json_tables.proofs.RunLemmas.{bytes_valid, eit_alone, long_alone}
use Rattle.ts_json_tables.proofs.RunsAlike.{Alike, alike_by, runs_alike}
use Rattle.ts_json_tables.proofs.ToldLaid.{ShortValid, Written, laid_told, short_told}
use Rattle.ts_json_tables.proofs.ToldLong.{LongParts, long_at, long_count, long_parts, long_told}

-- what the layers below ensure
pub record TellLaws : Type 0 where
  pub written : Written
  pub spelled : Spelled
  pub long_made : MadeValid
  pub short_made : ShortValid

pub told : TellLaws → (t : TableValue) (ss : List (List ℕ)) → IsTable t → IsOfBytes t → sections_of_table t ≡ Ok ss → TellsTable (told_again t) ss
told laws (laid p t) ss is well made = laid_told laws.written laws.spelled laws.long_made p t ss is well made
told laws (short s) ss is well made = subst (TellsTable (short s)) (same_written _ ss made) (short_told laws.short_made s is well)
  where
    same_written : (x y : List (List ℕ)) → ◌≡◌ {A = Result (List (List ℕ)) TableRefusal} (Ok x) (Ok y) → x ≡ y
    same_written x y is = cc
told laws (long l) ss is well made = subst (TellsTable (told_again (long l))) (same_written _ ss made) (long_told laws.long_made l is well)
  where
    same_written : (x y : List (List ℕ)) → ◌≡◌ {A = Result (List (List ℕ)) TableRefusal} (Ok x) (Ok y) → x ≡ y
    same_written x y is = cc

-- ---- a run of bytes and its sections are alike

-- the first number and the last of so many sections
abbrev used_by : Bool → ℕ × ℕ → ℕ → ℕ × ℕ
used_by eit n count = if eit then n else (0, count - 1)

-- a section of the run by the head of the first
record RunAt (s : List ℕ) (count k : ℕ) (b : List ℕ) : Type 0 where
  form : is_long b ≡ true
  id : table_id_of b ≡ table_id_of s
  extension : extension_of b ≡ extension_of s
  version : version_of b ≡ version_of s
  current : current_of b ≡ current_of s
  number : number_of b ≡ (used_by (is_eit_id (table_id_of s)) (number_of s, last_number_of s) count).0 + k
  last : last_number_of b ≡ (used_by (is_eit_id (table_id_of s)) (number_of s, last_number_of s) count).1

run_at : (s : List ℕ) (ss : List (List ℕ)) → is_long s ≡ true → IsTableRun (s ∷ ss) → (k : ℕ) → k < length (s ∷ ss) → RunAt s (length (s ∷ ss)) k (get_or (s ∷ ss) k [])
run_at s ss form (inl alone) k inside =
    let eit : is_eit_id (table_id_of s) ≡ true = sym (eit_alone s form) ∙ alone.0 in
    let one : k ≡ 0 = omega (arith, inside, ap length alone.1) in
    let first : RunAt s (length (s ∷ ss)) 0 s = record {
      form = form;
      id = refl;
      extension = refl;
      version = refl;
      current = refl;
      number = (let none : number_of s ≡ number_of s + 0 = omega arith in rw eit none);
      last = rw eit refl;
    } in
    subst (λ n. RunAt s (length (s ∷ ss)) n (get_or (s ∷ ss) n [])) (sym one) first
run_at s ss form (inr members) k inside =
    let first = members.0 0 (omega arith) in
    let eit : is_eit_id (table_id_of s) ≡ false = sym (eit_alone s form) ∙ first.together in
    let here = members.0 k inside in
    let last : last_number_of s ≡ length (s ∷ ss) - 1 = omega (arith, members.1) in
    record {
      form = long_alone (get_or (s ∷ ss) k []) here.together;
      id = here.same_id;
      extension = here.same_extension;
      version = here.same_version;
      current = here.same_current;
      number = (let from_0 : k ≡ 0 + k = omega arith in rw eit (here.numbered ∙ from_0));
      last = rw eit (here.same_last ∙ last);
    }

alike_at : MadeValid → (s : List ℕ) (ss : List (List ℕ)) (parts : LongParts (long_of s (s ∷ ss))) → list_all are_bytes (map body_of (s ∷ ss)) ≡ true → is_long s ≡ true → IsTableRun (s ∷ ss)
    → All (λ b. IsSection b) (s ∷ ss) → (k : ℕ) → k < length (s ∷ ss) → Alike (get_or (long_sections (long_of s (s ∷ ss))) k []) (get_or (s ∷ ss) k [])
alike_at law s ss parts bytes form whole all k inside =
    let l : LongHolding = long_of s (s ∷ ss) in
    let count : length (map body_of (s ∷ ss)) ≡ length (s ∷ ss) = length-map (s ∷ ss) body_of in
    let old = run_at s ss form whole k inside in
    let new = long_at law l parts bytes k (omega (arith, inside, count)) in
    let valid = All-get_or (λ b. IsSection b) (s ∷ ss) k [] inside all in
    let bodies : get_or (map body_of (s ∷ ss)) k [] ≡ body_of (get_or (s ∷ ss) k []) = get_or-map body_of (s ∷ ss) k [] [] inside in
    let body = new.same_body ∙ bodies in
    let used : numbers_used l ≡ used_by (is_eit_id (table_id_of s)) (number_of s, last_number_of s) (length (s ∷ ss)) =
    used_is (is_eit_id (table_id_of s)) (number_of s, last_number_of s) (length (map body_of (s ∷ ss))) (length (s ∷ ss)) count in
    record {
      form = new.long ∙ sym old.form;
      id = ap (λ f. f.table_id) new.same_head ∙ sym old.id;
      extension = ap (λ f. f.extension) new.same_head ∙ sym old.extension;
      version = ap (λ f. f.version) new.same_head ∙ sym old.version;
      current = ap (λ f. f.current) new.same_head ∙ sym old.current;
      number = ap (λ f. f.number) new.same_head ∙ ap (λ n. n.0 + k) used ∙ sym old.number;
      last = ap (λ f. f.last) new.same_head ∙ ap (λ n. n.1) used ∙ sym old.last;
      size = long_size (get_or (long_sections l) k []) new.valid new.long ∙ ap (λ b. 9 + length b) body ∙ sym (long_size (get_or (s ∷ ss) k []) valid old.form);
      body = body;
    }
  where
    used_is : (eit : Bool) (n : ℕ × ℕ) (a b : ℕ) → a ≡ b → (if eit then (if eit then n else (0, 0)) else (0, a - 1)) ≡ (if eit then n else (0, b - 1))
    used_is true n a b same = refl
    used_is false n a b same = ap (λ c. (0, c - 1)) same

-- so a page reads them alike
long_alike : MadeValid → (p : TablePage) (s : List ℕ) (ss : List (List ℕ)) → is_long s ≡ true → IsTableRun (s ∷ ss) → All (λ b. IsSection b) (s ∷ ss)
    → read_run p (long_sections (long_of s (s ∷ ss))) ≡ read_run p (s ∷ ss)
long_alike law p s ss form whole all =
    let l : LongHolding = long_of s (s ∷ ss) in
    let table : IsTable (if true then long l else short (short_of s)) = subst (λ b. IsTable (if b then long l else short (short_of s))) form (bytes_valid (s ∷ ss) whole all) in
    let parts = long_parts l table in
    let bytes = bodies_bytes (s ∷ ss) all in
    let count : length (long_sections l) ≡ length (s ∷ ss) = long_count l ∙ length-map (s ∷ ss) body_of in
    runs_alike p (long_sections l) (s ∷ ss)
    (alike_by (long_sections l) (s ∷ ss) count (λ k inside. alike_at law s ss parts bytes form whole all k (omega (arith, inside, count))))

-- ---- the sections of a run's table give it as it is

long_kept : MadeValid → (s : List ℕ) (ss : List (List ℕ)) (o : Option TablePage) → is_long s ≡ true → IsTableRun (s ∷ ss) → All (λ b. IsSection b) (s ∷ ss)
    → ((p : TablePage) → o ≡ Some p → (t : TableHolding) → read_run p (s ∷ ss) ≡ Ok t → ⊥) → long_by_page o (long_of s (s ∷ ss)) ≡ long (long_of s (s ∷ ss))
long_kept law s ss None form whole all unread = refl
long_kept law s ss (Some p) form whole all unread =
    ap (λ r. laid_or_long p r (long_of s (s ∷ ss))) (long_alike law p s ss form whole all) ∙ by_read (read_run p (s ∷ ss)) refl
  where
    by_read : (r : Result TableHolding FirstBroken) → read_run p (s ∷ ss) ≡ r → laid_or_long p r (long_of s (s ∷ ss)) ≡ long (long_of s (s ∷ ss))
    by_read (Ok t) is = absurd (unread p refl t is)
    by_read (Err fault) is = refl

bytes_kept : MadeValid → (s : List ℕ) (ss : List (List ℕ)) → IsTableRun (s ∷ ss) → All (λ b. IsSection b) (s ∷ ss)
    → ((p : TablePage) → page_with_id (table_id_of s) ≡ Some p → (t : TableHolding) → read_run p (s ∷ ss) ≡ Ok t → ⊥) → told_again (bytes_table (s ∷ ss)) ≡ bytes_table (s ∷ ss)
bytes_kept law s ss whole all unread = go (is_long s) refl
  where
    go : (b : Bool) → is_long s ≡ b → told_again (if b then long (long_of s (s ∷ ss)) else short (short_of s)) ≡ (if b then long (long_of s (s ∷ ss)) else short (short_of s))
    go true form = long_kept law s ss (page_with_id (table_id_of s)) form whole all unread
    go false form = refl

again_by : MadeValid → (s : List ℕ) (ss : List (List ℕ)) (o : Option TablePage) → page_with_id (table_id_of s) ≡ o → IsTableRun (s ∷ ss) → All (λ b. IsSection b) (s ∷ ss)
    → told_again (table_by o (s ∷ ss)) ≡ table_by o (s ∷ ss)
again_by law s ss None at whole all = bytes_kept law s ss whole all (λ p is. absurd (never p (sym at ∙ is)))
  where
    never : (p : TablePage) → ◌≡◌ {A = Option TablePage} None (Some p) → ⊥
    never p is = cc
again_by law s ss (Some p) at whole all = by_read (read_run p (s ∷ ss)) refl
  where
    same_page : (p q : TablePage) → ◌≡◌ {A = Option TablePage} (Some p) (Some q) → p ≡ q
    same_page p q is = cc

    no_both : (r : Result TableHolding FirstBroken) (fault : FirstBroken) (t : TableHolding) → r ≡ Err fault → r ≡ Ok t → ⊥
    no_both r fault t one two = cc

    by_read : (r : Result TableHolding FirstBroken) → read_run p (s ∷ ss) ≡ r → told_again (read_or_bytes p r (s ∷ ss)) ≡ read_or_bytes p r (s ∷ ss)
    by_read (Ok t) is = refl
    by_read (Err fault) is =
        bytes_kept law s ss whole all
        (λ q other t read. no_both (read_run p (s ∷ ss)) fault t is (ap (λ x. read_run x (s ∷ ss)) (same_page p q (sym at ∙ other)) ∙ read))

pub run_again : MadeValid → (run : List (List ℕ)) → IsTableRun run → All (λ b. IsSection b) run → told_again (table_of_run run) ≡ table_of_run run
run_again law [] whole all = absurd whole
run_again law (s ∷ ss) whole all = again_by law s ss (page_with_id (table_id_of s)) refl whole all

pub run_kept : TellLaws → (run : List (List ℕ)) → IsTableRun run → All (λ b. IsSection b) run → IsTable (table_of_run run) → IsOfBytes (table_of_run run) → IsKept run
run_kept laws run whole all is well = λ ss made. subst (λ t. TellsTable t ss) (run_again laws.long_made run whole all) (told laws (table_of_run run) ss is well made)

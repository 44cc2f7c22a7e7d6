-- A section added: the table that it completes, and the eras that sections to come go on with.
use Rattle.std.proofs.Common.{◌≡◌, ℕ, true, false, ◌&&◌, ◌==◌, List, [], ◌∷◌, ◌++◌, Option, Some, None, refl, sym, ◌∙◌, ap, subst, inl, inr, arith, append_assoc, append-nil}
use Rattle.std.specs.Option.{option_to_list}
use Rattle.std.proofs.lemmas.Bool.Decides.{nat_tests}
use Rattle.ts_section.specs.SectionFields.{version_of, last_number_of, head_fields}
use Rattle.ts_section.specs.declared.long_head.LongHead.{LongHead}
use Rattle.ts_section.specs.SectionRun.{stands_alone}
use Rattle.ts_demux.proofs.Choice.{if_true, if_false, true_or_false}
use Rattle.ts_demux.proofs.ErasLemmas.{era_of-other, era_of-on, era_of-new, era_of-same, belongs_of_tests, other_key, equal_keys, alone_has_no_key}
use Rattle.ts_demux.specs.Tables.{same_key, same_era, era_of, completed, table_at, tables_after, tables_of}
use Rattle.ts_demux.specs.Keys.{key_of, key_eq}
use Rattle.ts_demux.specs.Era.{IsEra, EntryStands, HasEra, EraStands}
use Rattle.ts_demux.specs.AssemblyState.{AssemblyState, StandsFor, era_at}
use Rattle.ts_demux.specs.declared.era.Era.{Era}
use Rattle.ts_demux.specs.declared.table_key.TableKey.{TableKey}

pub table_at-alone : (before : List (List ℕ)) (s : List ℕ) → stands_alone s ≡ true → table_at before s ≡ Some (s ∷ [])
unfolding table_at
table_at-alone before s e = if_true (stands_alone s) (Some (s ∷ [])) (completed (era_of before s) s) e

pub table_at-together : (before : List (List ℕ)) (s : List ℕ) → stands_alone s ≡ false → table_at before s ≡ completed (era_of before s) s
unfolding table_at
table_at-together before s e = if_false (stands_alone s) (Some (s ∷ [])) (completed (era_of before s) s) e

-- a section that is a table by itself changes nothing
pub stands-alone :
    (a : AssemblyState) (before : List (List ℕ)) (x : List ℕ) → stands_alone x ≡ true → StandsFor a before → StandsFor a (before ++ x ∷ [])
stands-alone a before x e h =
    record {
      working = h.working;
      entries = λ s t. subst (λ era. EntryStands (era_at a (key_of s)) (version_of s) (last_number_of s) era) (sym (era_of-other before s x (alone_has_no_key s x e))) (h.entries s t);
    }

-- the entry of the key of x, after x, for a section s of that key
entry_after :
    (o : Option Era) (before : List (List ℕ)) (s x : List ℕ) → same_key s x ≡ true →
    HasEra o (version_of x) (last_number_of x) → EraStands o (era_of before x ++ x ∷ []) →
    EntryStands o (version_of s) (last_number_of s) (era_of (before ++ x ∷ []) s)
entry_after None before s x k has stands = absurd has
entry_after (Some era) before s x k has stands = (
  λ v l.
      (let e : same_era s x ≡ true = same_numbers (version_of x) (version_of s) (last_number_of x) (last_number_of s) (sym has.0 ∙ v) (sym has.1 ∙ l) in
      let f : era_of (before ++ x ∷ []) s ≡ era_of before x ++ x ∷ [] =
      era_of-on before s x k e ∙ ap (λ t. t ++ x ∷ []) (era_of-same before s x (belongs_of_tests s x k e)) in
      subst (IsEra era) (sym f) stands),
  λ t.
      (let e : same_era s x ≡ false = ap (λ n. (n == version_of s) && (last_number_of x == last_number_of s)) (sym has.0) ∙ ap (λ n. (era.version == version_of s) && (n == last_number_of s)) (sym has.1) ∙ t in
      era_of-new before s x k e),
)
  where
    same_numbers : (a b c d : ℕ) → a ≡ b → c ≡ d → ((a == b) && (c == d)) ≡ true
    same_numbers a b c d p q = grind (arith, nat_tests)

pub stands-together :
    (old new : AssemblyState) (before : List (List ℕ)) (x : List ℕ) → stands_alone x ≡ false → new.failed ≡ old.failed →
    HasEra (era_at new (key_of x)) (version_of x) (last_number_of x) →
    EraStands (era_at new (key_of x)) (era_of before x ++ x ∷ []) →
    ((other : TableKey) → key_eq (key_of x) other ≡ false → era_at new other ≡ era_at old other) →
    StandsFor old before → StandsFor new (before ++ x ∷ [])
stands-together old new before x alone same has stands others h =
    record {
      working = same ∙ h.working;
      entries = λ s t.
          elim (true_or_false (same_key s x)) as (λ _. EntryStands (era_at new (key_of s)) (version_of s) (last_number_of s) (era_of (before ++ x ∷ []) s)) [
            | inl k ↦
                (subst (λ key. EntryStands (era_at new key) (version_of s) (last_number_of s) (era_of (before ++ x ∷ []) s)) (equal_keys s x k)
                (entry_after (era_at new (key_of x)) before s x k has stands))
            | inr k ↦
                (subst (λ o. EntryStands o (version_of s) (last_number_of s) (era_of (before ++ x ∷ []) s)) (sym (others (key_of s) (other_key s x alone k)))
                (subst (λ era. EntryStands (era_at old (key_of s)) (version_of s) (last_number_of s) era) (sym (era_of-other before s x k)) (h.entries s t)))
          ];
    }

-- the entry under the key of a section stands for the era that the section would go on with
pub entry_at :
    (old : AssemblyState) (before : List (List ℕ)) (x : List ℕ) (key : TableKey) (head : LongHead) → key ≡ key_of x → head ≡ head_fields x →
    stands_alone x ≡ false → StandsFor old before → EntryStands (era_at old key) head.version head.last (era_of before x)
entry_at old before x key head k h alone stands =
    subst (λ t. EntryStands (era_at old t) head.version head.last (era_of before x)) (sym k)
    (subst (λ t. EntryStands (era_at old (key_of x)) t.version t.last (era_of before x)) (sym h) (stands.entries x alone))

pub stands-together_at :
    (old new : AssemblyState) (before : List (List ℕ)) (x : List ℕ) (key : TableKey) → key ≡ key_of x → stands_alone x ≡ false → new.failed ≡ old.failed →
    HasEra (era_at new key) (version_of x) (last_number_of x) →
    EraStands (era_at new key) (era_of before x ++ x ∷ []) →
    ((other : TableKey) → key_eq key other ≡ false → era_at new other ≡ era_at old other) →
    StandsFor old before → StandsFor new (before ++ x ∷ [])
stands-together_at old new before x key k alone same has stands others h =
    stands-together old new before x alone same
    (subst (λ t. HasEra (era_at new t) (version_of x) (last_number_of x)) k has)
    (subst (λ t. EraStands (era_at new t) (era_of before x ++ x ∷ [])) k stands)
    (subst (λ t. (other : TableKey) → key_eq t other ≡ false → era_at new other ≡ era_at old other) k others)
    h

nothing_before : (s : List ℕ) → era_of [] s ≡ []
unfolding era_of
nothing_before s = refl

pub stands-fresh : (a : AssemblyState) → a.failed ≡ false → ((key : TableKey) → era_at a key ≡ None) → StandsFor a []
stands-fresh a f empty =
    record {
      working = f;
      entries = λ s t. subst (λ o. EntryStands o (version_of s) (last_number_of s) (era_of [] s)) (sym (empty (key_of s))) (nothing_before s);
    }

tables_after-push :
    (before ss : List (List ℕ)) (s : List ℕ) →
    tables_after before (ss ++ s ∷ []) ≡ tables_after before ss ++ option_to_list (table_at (before ++ ss) s)
unfolding tables_after
tables_after-push before [] s =
    append-nil (option_to_list (table_at before s)) ∙ ap (λ t. option_to_list (table_at t s)) (sym (append-nil before))
tables_after-push before (x ∷ ss) s =
    let first = option_to_list (table_at before x) in
    ap (λ t. first ++ t) (tables_after-push (before ++ x ∷ []) ss s ∙ ap (λ t. tables_after (before ++ x ∷ []) ss ++ option_to_list (table_at t s)) (append_assoc before (x ∷ []) ss))
    ∙ sym (append_assoc first (tables_after (before ++ x ∷ []) ss) (option_to_list (table_at (before ++ x ∷ ss) s)))

-- the tables of one section more
pub tables_of-push : (before : List (List ℕ)) (s : List ℕ) → tables_of (before ++ s ∷ []) ≡ tables_of before ++ option_to_list (table_at before s)
tables_of-push before s = tables_after-push [] before s

-- The era of a section, as sections come.
use Rattle.std.proofs.Common.{◌≡◌, ℕ, Bool, true, false, not, ◌&&◌, ◌==◌, List, [], ◌∷◌, ◌++◌, reverse, filter, take_while, All, refl, sym, ◌∙◌, ap, subst, inl, inr, append-nil}
use Rattle.std.specs.Bool.{beq}
use Rattle.std.proofs.lemmas.Bool.{eqb-true}
use Rattle.std.proofs.lemmas.List.{reverse-append}
use Rattle.std.proofs.lemmas.List.Sums.{take_while-cons}
use Rattle.std.proofs.lemmas.List.Elements.{All-nil, All-cons, All-head, All-tail, All-append, filter-append}
use Rattle.ts_section.specs.SectionFields.{table_id_of, extension_of, version_of, current_of, last_number_of}
use Rattle.ts_section.specs.SectionRun.{stands_alone}
use Rattle.ts_demux.proofs.Choice.{if_true, if_false, true_or_false, both_true, not_true}
use Rattle.ts_demux.specs.Tables.{same_key, same_era, last_while, era_of}
use Rattle.ts_demux.specs.Keys.{key_of, key_eq}
use Rattle.ts_demux.specs.Era.{Belongs, AllBelong}

module _ {X : Type 0} where
  reverse-push : (xs : List X) (x : X) → reverse (xs ++ x ∷ []) ≡ x ∷ reverse xs
  reverse-push xs x = reverse-append xs (x ∷ [])

  last_while-passes : (test : X → Bool) (xs : List X) (x : X) → test x ≡ true → last_while test (xs ++ x ∷ []) ≡ last_while test xs ++ x ∷ []
  last_while-passes test xs x e =
      ap (λ t. reverse (take_while test t)) (reverse-push xs x)
      ∙ ap reverse (take_while-cons test x (reverse xs) ∙ if_true (test x) (x ∷ take_while test (reverse xs)) [] e)
      ∙ reverse-append (x ∷ []) (take_while test (reverse xs))

  last_while-stops : (test : X → Bool) (xs : List X) (x : X) → test x ≡ false → last_while test (xs ++ x ∷ []) ≡ []
  last_while-stops test xs x e =
      ap (λ t. reverse (take_while test t)) (reverse-push xs x)
      ∙ ap reverse (take_while-cons test x (reverse xs) ∙ if_false (test x) (x ∷ take_while test (reverse xs)) [] e)

  filter-passes : (test : X → Bool) (xs : List X) (x : X) → test x ≡ true → filter test (xs ++ x ∷ []) ≡ filter test xs ++ x ∷ []
  filter-passes test xs x e = filter-append test xs (x ∷ []) ∙ ap (λ t. filter test xs ++ t) (if_true (test x) (x ∷ []) [] e)

  filter-fails : (test : X → Bool) (xs : List X) (x : X) → test x ≡ false → filter test (xs ++ x ∷ []) ≡ filter test xs
  filter-fails test xs x e = filter-append test xs (x ∷ []) ∙ ap (λ t. filter test xs ++ t) (if_false (test x) (x ∷ []) [] e) ∙ append-nil (filter test xs)

  All-filter_test : (P : X → Type 0) (test : X → Bool) → ((x : X) → test x ≡ true → P x) → (xs : List X) → All P (filter test xs)
  All-filter_test P test h [] = All-nil P
  All-filter_test P test h (x ∷ xs) =
      elim (true_or_false (test x)) as (λ _. All P (filter test (x ∷ xs))) [
        | inl t ↦ subst (All P) (sym (if_true (test x) (x ∷ filter test xs) (filter test xs) t)) (All-cons P x (filter test xs) (h x t) (All-filter_test P test h xs))
        | inr f ↦ subst (All P) (sym (if_false (test x) (x ∷ filter test xs) (filter test xs) f)) (All-filter_test P test h xs)
      ]

  -- what holds of each member that passes holds of each of the first that pass
  All-take_while_test : (P Q : X → Type 0) (test : X → Bool) → ((x : X) → P x → test x ≡ true → Q x) → (xs : List X) → All P xs → All Q (take_while test xs)
  All-take_while_test P Q test h [] all = All-nil Q
  All-take_while_test P Q test h (x ∷ xs) all =
      elim (true_or_false (test x)) as (λ _. All Q (take_while test (x ∷ xs))) [
        | inl t ↦ subst (All Q) (sym (take_while-cons test x xs ∙ if_true (test x) (x ∷ take_while test xs) [] t))
            (All-cons Q x (take_while test xs) (h x (All-head P x xs all) t) (All-take_while_test P Q test h xs (All-tail P x xs all)))
        | inr f ↦ subst (All Q) (sym (take_while-cons test x xs ∙ if_false (test x) (x ∷ take_while test xs) [] f)) (All-nil Q)
      ]

  All-reverse : (P : X → Type 0) (xs : List X) → All P xs → All P (reverse xs)
  All-reverse P [] all = All-nil P
  All-reverse P (x ∷ xs) all =
      subst (All P) (sym (reverse-append (x ∷ []) xs)) (All-append P (reverse xs) (x ∷ []) (All-reverse P xs (All-tail P x xs all)) (All-cons P x [] (All-head P x xs all) (All-nil P)))

same_flags : (a b : Bool) → beq a b ≡ true → a ≡ b
same_flags true true e = refl
same_flags true false e = cc
same_flags false true e = cc
same_flags false false e = refl

-- what the tests of key and era say
pub belongs_of_tests : (s x : List ℕ) → same_key s x ≡ true → same_era s x ≡ true → Belongs s x
belongs_of_tests s x k e =
    let a = both_true (not (stands_alone x)) ((table_id_of x == table_id_of s) && ((extension_of x == extension_of s) && beq (current_of x) (current_of s))) k in
    let b = both_true (table_id_of x == table_id_of s) ((extension_of x == extension_of s) && beq (current_of x) (current_of s)) a.1 in
    let c = both_true (extension_of x == extension_of s) (beq (current_of x) (current_of s)) b.1 in
    let d = both_true (version_of x == version_of s) (last_number_of x == last_number_of s) e in
    record {
      together = not_true (stands_alone x) a.0;
      same_id = eqb-true (table_id_of x) (table_id_of s) b.0;
      same_extension = eqb-true (extension_of x) (extension_of s) c.0;
      same_current = same_flags (current_of x) (current_of s) c.1;
      same_version = eqb-true (version_of x) (version_of s) d.0;
      same_last = eqb-true (last_number_of x) (last_number_of s) d.1;
    }

belongs_itself : (s : List ℕ) → stands_alone s ≡ false → Belongs s s
belongs_itself s e = record { together = e; same_id = refl; same_extension = refl; same_current = refl; same_version = refl; same_last = refl }

-- the sections of an era belong together
pub era_belongs : (before : List (List ℕ)) (s : List ℕ) → stands_alone s ≡ false → AllBelong s (era_of before s)
unfolding era_of
era_belongs before s e =
    let keyed = All-filter_test (λ x. same_key s x ≡ true) (same_key s) (λ x t. t) before in
    let back = All-reverse (λ x. same_key s x ≡ true) (filter (same_key s) before) keyed in
    let taken = All-take_while_test (λ x. same_key s x ≡ true) (λ x. Belongs s x) (same_era s) (λ x k t. belongs_of_tests s x k t) (reverse (filter (same_key s) before)) back in
    let era = All-reverse (λ x. Belongs s x) (take_while (same_era s) (reverse (filter (same_key s) before))) taken in
    All-append (λ x. Belongs s x) (era_of before s) (s ∷ []) era (All-cons (λ x. Belongs s x) s [] (belongs_itself s e) (All-nil (λ x. Belongs s x)))

-- one section more
pub era_of-other : (before : List (List ℕ)) (s x : List ℕ) → same_key s x ≡ false → era_of (before ++ x ∷ []) s ≡ era_of before s
unfolding era_of
era_of-other before s x e = ap (last_while (same_era s)) (filter-fails (same_key s) before x e)

pub era_of-on : (before : List (List ℕ)) (s x : List ℕ) → same_key s x ≡ true → same_era s x ≡ true → era_of (before ++ x ∷ []) s ≡ era_of before s ++ x ∷ []
unfolding era_of
era_of-on before s x k e = ap (last_while (same_era s)) (filter-passes (same_key s) before x k) ∙ last_while-passes (same_era s) (filter (same_key s) before) x e

pub era_of-new : (before : List (List ℕ)) (s x : List ℕ) → same_key s x ≡ true → same_era s x ≡ false → era_of (before ++ x ∷ []) s ≡ []
unfolding era_of
era_of-new before s x k e = ap (last_while (same_era s)) (filter-passes (same_key s) before x k) ∙ last_while-stops (same_era s) (filter (same_key s) before) x e

-- sections of one era have one era before them
by_fields : List (List ℕ) → ℕ → ℕ → Bool → ℕ → ℕ → List (List ℕ)
by_fields before id extension current version last =
    last_while (λ x. (version_of x == version) && (last_number_of x == last))
    (filter (λ x. not (stands_alone x) && ((table_id_of x == id) && ((extension_of x == extension) && beq (current_of x) current))) before)

pub era_of-same : (before : List (List ℕ)) (s x : List ℕ) → Belongs s x → era_of before s ≡ era_of before x
unfolding era_of by_fields
era_of-same before s x b =
    let f = by_fields before in
    ap (λ n. f n (extension_of s) (current_of s) (version_of s) (last_number_of s)) (sym b.same_id)
    ∙ ap (λ n. f (table_id_of x) n (current_of s) (version_of s) (last_number_of s)) (sym b.same_extension)
    ∙ ap (λ n. f (table_id_of x) (extension_of x) n (version_of s) (last_number_of s)) (sym b.same_current)
    ∙ ap (λ n. f (table_id_of x) (extension_of x) (current_of x) n (last_number_of s)) (sym b.same_version)
    ∙ ap (λ n. f (table_id_of x) (extension_of x) (current_of x) (version_of x) n) (sym b.same_last)

-- a section of another key
pub other_key : (s x : List ℕ) → stands_alone x ≡ false → same_key s x ≡ false → key_eq (key_of x) (key_of s) ≡ false
other_key s x alone e =
    sym (if_true_and (not (stands_alone x)) (key_eq (key_of x) (key_of s)) (ap not alone)) ∙ e
  where
    if_true_and : (a b : Bool) → a ≡ true → (a && b) ≡ b
    if_true_and true b t = refl
    if_true_and false b t = cc

pub equal_keys : (s x : List ℕ) → same_key s x ≡ true → key_of x ≡ key_of s
equal_keys s x k =
    let a = both_true (not (stands_alone x)) ((table_id_of x == table_id_of s) && ((extension_of x == extension_of s) && beq (current_of x) (current_of s))) k in
    let b = both_true (table_id_of x == table_id_of s) ((extension_of x == extension_of s) && beq (current_of x) (current_of s)) a.1 in
    let c = both_true (extension_of x == extension_of s) (beq (current_of x) (current_of s)) b.1 in
    let id = eqb-true (table_id_of x) (table_id_of s) b.0 in
    let extension = eqb-true (extension_of x) (extension_of s) c.0 in
    let current = same_flags (current_of x) (current_of s) c.1 in
    cc

pub alone_has_no_key : (s x : List ℕ) → stands_alone x ≡ true → same_key s x ≡ false
alone_has_no_key s x e = ap (λ b. not b && ((table_id_of x == table_id_of s) && ((extension_of x == extension_of s) && beq (current_of x) (current_of s)))) e

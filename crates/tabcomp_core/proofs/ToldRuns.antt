-- The runs that sections are divided into are the only ones.
use Rattle.std.proofs.Common.{◌≡◌, ℕ, zero, suc, ◌+◌, ◌<◌, ◌≤◌, true, false, List, [], ◌∷◌, ◌++◌, length, take, drop, get_or, refl, sym, ap, ◌∙◌, subst, inl, inr, ◌⊎◌, arith}
use Rattle.std.specs.Prelude.{All, Result, Ok, Err, nat_eq}
use Rattle.std.proofs.lemmas.Bool.{cases_Bool, cond-true, cond-false, eqb-true}
use Rattle.std.proofs.lemmas.List.{get_or-take, length-drop, length-take, take-append-drop}
use Rattle.std.proofs.lemmas.List.Elements.{All-cons, All-head, All-nil, All-tail}
use Rattle.ts_section.specs.SectionFields.{last_number_of}
use Rattle.ts_section.specs.SectionRun.{stands_alone, IsMember, IsTableRun}
use Rattle.ts_table_rows.specs.Filling.{join}
use Rattle.tabcomp_core.specs.Dividing.{AreRuns, before_runs, begun_size, is_member, members_from, runs_from, runs_in, whole_size}
use Rattle.tabcomp_core.proofs.DivideLemmas.{MembersFrom, member_is, members_here, members_after, one_run, whole_some}

-- ---- whole runs are found

runs_told : (runs : List (List (List ℕ))) (place : ℕ) → All IsTableRun runs → runs_from (length (join runs)) place (join runs) ≡ Ok runs
unfolding runs_from
runs_told [] place whole = refl
runs_told ([] ∷ runs) place whole = absurd (All-head IsTableRun [] runs whole)
runs_told ((s ∷ r) ∷ runs) place whole =
    one_run s r (join runs) place (All-head IsTableRun (s ∷ r) runs whole)
    ∙ ap (before_runs (s ∷ r)) (runs_told runs (place + length (s ∷ r)) (All-tail IsTableRun (s ∷ r) runs whole))

pub only_runs : (ss : List (List ℕ)) (runs : List (List (List ℕ))) → AreRuns runs ss → runs_in ss ≡ Ok runs
only_runs ss runs are = subst (λ l. runs_in l ≡ Ok runs) are.joined (runs_told runs 0 are.whole)

-- ---- what is found are whole runs

pub counted_members : (first : List ℕ) (place : ℕ) (xs : List (List ℕ)) → MembersFrom first place xs (members_from first place xs)
unfolding members_from
counted_members first place [] k inside = absurd (omega (arith, inside))
counted_members first place (x ∷ xs) k inside =
    elim (cases_Bool (is_member first place x)) [
      | inl is ↦
          let size = cond-true (is_member first place x) (members_from first (place + 1) xs + 1) 0 is in
          by_place (counted_members first (place + 1) xs) k (omega (arith, inside, size)) is
      | inr other ↦ absurd (omega (arith, inside, cond-false (is_member first place x) (members_from first (place + 1) xs + 1) 0 other))
    ]
  where
    by_place : MembersFrom first (place + 1) xs (members_from first (place + 1) xs) → (j : ℕ) → j < members_from first (place + 1) xs + 1 → is_member first place x ≡ true → IsMember first (place + j) (get_or (x ∷ xs) j [])
    by_place behind zero early is = subst (λ at. IsMember first at x) (omega arith) (member_is first x place is)
    by_place behind (suc j) early is =
        subst (λ at. IsMember first at (get_or xs j [])) (omega arith) (behind j (omega (arith, early)))

counted_within : (first : List ℕ) (place : ℕ) (xs : List (List ℕ)) → members_from first place xs ≤ length xs
unfolding members_from
counted_within first place [] = omega arith
counted_within first place (x ∷ xs) =
    elim (cases_Bool (is_member first place x)) [
      | inl is ↦ omega (arith, cond-true (is_member first place x) (members_from first (place + 1) xs + 1) 0 is, counted_within first (place + 1) xs)
      | inr other ↦ omega (arith, cond-false (is_member first place x) (members_from first (place + 1) xs + 1) 0 other)
    ]

-- no more members than were counted
pub counted_all : (first : List ℕ) (place : ℕ) (xs : List (List ℕ)) (n : ℕ) → n ≤ length xs → MembersFrom first place xs n → n ≤ members_from first place xs
unfolding members_from
counted_all first place xs zero within members = omega arith
counted_all first place [] (suc n) within members = absurd (omega (arith, within))
counted_all first place (x ∷ xs) (suc n) within members =
    let more = counted_all first (place + 1) xs n (omega (arith, within)) (members_after first place x xs n members) in
    omega (arith, more, cond-true (is_member first place x) (members_from first (place + 1) xs + 1) 0 (members_here first place x xs n members))

pub begun_within : (s : List ℕ) (ss : List (List ℕ)) → begun_size (s ∷ ss) ≤ length (s ∷ ss)
begun_within s ss =
    elim (cases_Bool (stands_alone s)) [
      | inl alone ↦ omega (arith, cond-true (stands_alone s) 1 (members_from s 0 (s ∷ ss)) alone)
      | inr together ↦ omega (arith, cond-false (stands_alone s) 1 (members_from s 0 (s ∷ ss)) together, counted_within s 0 (s ∷ ss))
    ]

pub taken_size : (n : ℕ) (l : List (List ℕ)) → n ≤ length l → length (take n l) ≡ n
taken_size n l within = omega (arith, length-take n l, within)

-- the front of a list that is as long as a run is one
front_whole : (s : List ℕ) (ss : List (List ℕ)) (n : ℕ) → begun_size (s ∷ ss) ≡ suc n → suc n ≡ whole_size s → IsTableRun (take (suc n) (s ∷ ss))
front_whole s ss n begun whole =
    elim (cases_Bool (stands_alone s)) [
      | inl alone ↦
          let one : n ≡ 0 = omega (arith, whole, cond-true (stands_alone s) 1 (last_number_of s + 1) alone) in
          inl (alone, ap (λ m. take m ss) one)
      | inr together ↦
          let count : members_from s 0 (s ∷ ss) ≡ suc n = sym (cond-false (stands_alone s) 1 (members_from s 0 (s ∷ ss)) together) ∙ begun in
          let size : whole_size s ≡ last_number_of s + 1 = cond-false (stands_alone s) 1 (last_number_of s + 1) together in
          let long : length (take (suc n) (s ∷ ss)) ≡ suc n = taken_size (suc n) (s ∷ ss) (omega (arith, count, counted_within s 0 (s ∷ ss))) in
          inr (
            λ k inside.
                let early : k < suc n = omega (arith, inside, long) in
                subst (IsMember s k) (sym (get_or-take (suc n) (s ∷ ss) k [] early))
                (subst (λ at. IsMember s at (get_or (s ∷ ss) k [])) (omega arith) (counted_members s 0 (s ∷ ss) k (omega (arith, count, early)))),
            omega (arith, long, whole, size),
          )
    ]

pub whole_front : (s : List ℕ) (ss : List (List ℕ)) → begun_size (s ∷ ss) ≡ whole_size s → IsTableRun (take (begun_size (s ∷ ss)) (s ∷ ss))
whole_front s ss equal = by_size (begun_size (s ∷ ss)) refl
  where
    by_size : (n : ℕ) → begun_size (s ∷ ss) ≡ n → IsTableRun (take (begun_size (s ∷ ss)) (s ∷ ss))
    by_size zero size = absurd (omega (arith, size, equal, whole_some s))
    by_size (suc n) size = subst (λ m. IsTableRun (take m (s ∷ ss))) (sym size) (front_whole s ss n size (sym size ∙ equal))

same_told : {A : Type 0} (x y : A) → ◌≡◌ {A = Result A ℕ} (Ok x) (Ok y) → x ≡ y
same_told x y is = cc is

runs_whole : (most place : ℕ) (l : List (List ℕ)) (runs : List (List (List ℕ))) → length l ≤ most → runs_from most place l ≡ Ok runs → AreRuns runs l
unfolding runs_from
runs_whole most place [] runs enough is =
    let none : [] ≡ runs = same_told [] runs is in
    subst (λ r. AreRuns r []) none (record { joined = refl; whole = All-nil IsTableRun })
runs_whole zero place (s ∷ ss) runs enough is = absurd (omega (arith, enough))
runs_whole (suc most) place (s ∷ ss) runs enough is =
    by_test (runs_whole most) (cases_Bool (nat_eq (begun_size (s ∷ ss)) (whole_size s)))
  where
    by_rest : (run : List (List ℕ)) (r : Result (List (List (List ℕ))) ℕ) (rest : List (List ℕ)) → IsTableRun run → run ++ rest ≡ s ∷ ss
        → ((more : List (List (List ℕ))) → r ≡ Ok more → AreRuns more rest) → before_runs run r ≡ Ok runs → AreRuns runs (s ∷ ss)
    by_rest run (Ok more) rest whole joins behind told =
        let are = behind more refl in
        subst (λ x. AreRuns x (s ∷ ss)) (same_told (run ∷ more) runs told)
        (record { joined = ap (λ l. run ++ l) are.joined ∙ joins; whole = All-cons IsTableRun run more whole are.whole })
    by_rest run (Err at) rest whole joins behind told = cc told

    by_test : ((at : ℕ) (l : List (List ℕ)) (found : List (List (List ℕ))) → length l ≤ most → runs_from most at l ≡ Ok found → AreRuns found l)
        → (nat_eq (begun_size (s ∷ ss)) (whole_size s) ≡ true) ⊎ (nat_eq (begun_size (s ∷ ss)) (whole_size s) ≡ false) → AreRuns runs (s ∷ ss)
    by_test behind test =
        elim test [
          | inl full ↦
              let m : ℕ = begun_size (s ∷ ss) in
              let equal = eqb-true m (whole_size s) full in
              let run : List (List ℕ) = take m (s ∷ ss) in
              let rest : List (List ℕ) = drop m (s ∷ ss) in
              by_rest run (runs_from most (place + m) rest) rest (whole_front s ss equal) (take-append-drop m (s ∷ ss))
              (λ more. behind (place + m) rest more (omega (arith, enough, equal, whole_some s, length-drop m (s ∷ ss))))
              (sym (cond-true (nat_eq m (whole_size s)) (before_runs run (runs_from most (place + m) rest)) (Err (place + m)) full) ∙ is)
          | inr few ↦ cc (sym (cond-false (nat_eq (begun_size (s ∷ ss)) (whole_size s)) _ (Err (place + begun_size (s ∷ ss))) few) ∙ is)
        ]

pub told_runs : (ss : List (List ℕ)) (runs : List (List (List ℕ))) → runs_in ss ≡ Ok runs → AreRuns runs ss
told_runs ss runs is = runs_whole (length ss) 0 ss runs (omega arith) is

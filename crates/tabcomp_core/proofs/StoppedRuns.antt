-- Where sections are not runs.
use Rattle.std.proofs.Common.{◌≡◌, ℕ, zero, suc, ◌+◌, ◌<◌, ◌≤◌, true, false, List, [], ◌∷◌, ◌++◌, length, take, drop, get_or, refl, sym, ap, ◌∙◌, subst, inl, inr, ◌⊎◌, arith, append_assoc}
use Rattle.std.specs.Prelude.{Result, Ok, Err, nat_eq}
use Rattle.std.proofs.lemmas.Bool.{cases_Bool, cases_lt, cond-true, cond-false, eqb-true, eqb-false}
use Rattle.std.proofs.lemmas.List.{drop_more, length-append, length-drop, take-append-drop, take_more}
use Rattle.std.proofs.lemmas.List.Elements.{All-cons, All-nil}
use Rattle.ts_section.specs.SectionFields.{last_number_of}
use Rattle.ts_section.specs.SectionRun.{stands_alone, BeginsRun, IsTableRun}
use Rattle.ts_table_rows.specs.Filling.{join}
use Rattle.tabcomp_core.specs.Dividing.{StopsAt, before_runs, begun_size, members_from, runs_from, runs_in, whole_size}
use Rattle.tabcomp_core.proofs.DivideLemmas.{begins_by, members_begun, whole_begun, whole_some}
use Rattle.tabcomp_core.proofs.ToldRuns.{begun_within, counted_all, counted_members, taken_size, whole_front}

-- ---- the first run stops

few_together : (s : List ℕ) (ss : List (List ℕ)) → nat_eq (begun_size (s ∷ ss)) (whole_size s) ≡ false → stands_alone s ≡ false
few_together s ss few =
    elim (cases_Bool (stands_alone s)) [
      | inl alone ↦
          absurd (eqb-false (begun_size (s ∷ ss)) (whole_size s) few
          (cond-true (stands_alone s) 1 (members_from s 0 (s ∷ ss)) alone ∙ sym (cond-true (stands_alone s) 1 (last_number_of s + 1) alone)))
      | inr together ↦ together
    ]

front_begins : (s : List ℕ) (ss : List (List ℕ)) → stands_alone s ≡ false → BeginsRun (take (begun_size (s ∷ ss)) (s ∷ ss))
front_begins s ss together =
    let count : begun_size (s ∷ ss) ≡ members_from s 0 (s ∷ ss) = cond-false (stands_alone s) 1 (members_from s 0 (s ∷ ss)) together in
    subst (λ n. BeginsRun (take n (s ∷ ss))) (sym count) (begins_by s ss (members_from s 0 (s ∷ ss)) (counted_members s 0 (s ∷ ss)))

front_open : (s : List ℕ) (ss : List (List ℕ)) (n : ℕ) → n ≤ length (s ∷ ss) → (n ≡ whole_size s → ⊥) → IsTableRun (take n (s ∷ ss)) → ⊥
front_open s ss zero within other whole = whole
front_open s ss (suc n) within other whole =
    let size = whole_begun s (take n ss) [] whole in
    other (omega (arith, size.1, taken_size n ss (omega (arith, within))))

goes_no_further : (s : List ℕ) (ss : List (List ℕ)) → stands_alone s ≡ false → begun_size (s ∷ ss) < length (s ∷ ss)
    → BeginsRun (take (begun_size (s ∷ ss) + 1) (s ∷ ss)) → ⊥
goes_no_further s ss together inside begins =
    let n : ℕ = begun_size (s ∷ ss) in
    let count : n ≡ members_from s 0 (s ∷ ss) = cond-false (stands_alone s) 1 (members_from s 0 (s ∷ ss)) together in
    let members = members_begun s ss (n + 1) together (omega (arith, inside)) begins in
    absurd (omega (arith, count, counted_all s 0 (s ∷ ss) (n + 1) (omega (arith, inside)) members))

ends_there : (s : List ℕ) (ss : List (List ℕ)) → stands_alone s ≡ false
    → BeginsRun (take (begun_size (s ∷ ss)) (s ∷ ss) ++ take 1 (drop (begun_size (s ∷ ss)) (s ∷ ss))) → length (drop (begun_size (s ∷ ss)) (s ∷ ss)) ≡ 0
ends_there s ss together begins =
    let n : ℕ = begun_size (s ∷ ss) in
    elim (cases_lt n (length (s ∷ ss))) [
      | inl inside ↦
          let next : take 1 (drop n (s ∷ ss)) ≡ get_or (s ∷ ss) n s ∷ [] = ap (take 1) (drop_more (s ∷ ss) n s inside) in
          let more : take (n + 1) (s ∷ ss) ≡ take n (s ∷ ss) ++ take 1 (drop n (s ∷ ss)) =
          take_more (s ∷ ss) n s inside ∙ ap (λ l. take n (s ∷ ss) ++ l) (sym next) in
          absurd (goes_no_further s ss together inside (subst BeginsRun (sym more) begins))
      | inr past ↦ omega (arith, past, length-drop n (s ∷ ss))
    ]

first_stops : (s : List ℕ) (ss : List (List ℕ)) → nat_eq (begun_size (s ∷ ss)) (whole_size s) ≡ false → StopsAt (s ∷ ss) (begun_size (s ∷ ss))
first_stops s ss few =
    let n : ℕ = begun_size (s ∷ ss) in
    let together = few_together s ss few in
    let within = begun_within s ss in
    let size : length (take n (s ∷ ss)) ≡ n = taken_size n (s ∷ ss) within in
    record {
      runs = [];
      begun = take n (s ∷ ss);
      rest = drop n (s ∷ ss);
      joined = sym (take-append-drop n (s ∷ ss));
      there = omega (arith, size);
      whole = All-nil IsTableRun;
      begins = front_begins s ss together;
      not_whole = front_open s ss n within (eqb-false n (whole_size s) few);
      stops = ends_there s ss together;
      some = omega (arith, ap length (take-append-drop n (s ∷ ss)), length-append (take n (s ∷ ss)) (drop n (s ∷ ss)));
    }

-- ---- after whole runs

after_run : (run rest l : List (List ℕ)) (q : ℕ) → IsTableRun run → run ++ rest ≡ l → StopsAt rest q → StopsAt l (length run + q)
after_run run rest l q whole joins stops = record {
  runs = run ∷ stops.runs;
  begun = stops.begun;
  rest = stops.rest;
  joined = sym joins ∙ ap (λ x. run ++ x) stops.joined ∙ sym (append_assoc run (join stops.runs) (stops.begun ++ stops.rest));
  there = omega (arith, stops.there, length-append run (join stops.runs));
  whole = All-cons IsTableRun run stops.runs whole stops.whole;
  begins = stops.begins;
  not_whole = stops.not_whole;
  stops = stops.stops;
  some = stops.some;
}

same_place : {A : Type 0} (x y : ℕ) → ◌≡◌ {A = Result A ℕ} (Err x) (Err y) → x ≡ y
same_place x y is = cc is

-- a place counted from another one on
abbrev StopsFrom : ℕ → List (List ℕ) → ℕ → Type 0
StopsFrom place l p = (q : ℕ) × (p ≡ place + q) × StopsAt l q

runs_stop : (most place p : ℕ) (l : List (List ℕ)) → length l ≤ most → runs_from most place l ≡ Err p → StopsFrom place l p
unfolding runs_from
runs_stop most place p [] enough is = cc is
runs_stop zero place p (s ∷ ss) enough is = absurd (omega (arith, enough))
runs_stop (suc most) place p (s ∷ ss) enough is =
    by_size (runs_stop most) (begun_size (s ∷ ss)) refl (cases_Bool (nat_eq (begun_size (s ∷ ss)) (whole_size s)))
  where
    by_rest : (run : List (List ℕ)) (n : ℕ) (r : Result (List (List (List ℕ))) ℕ) (rest : List (List ℕ)) → IsTableRun run → run ++ rest ≡ s ∷ ss
        → length run ≡ n → ((at : ℕ) → r ≡ Err at → StopsFrom (place + n) rest at) → before_runs run r ≡ Err p → StopsFrom place (s ∷ ss) p
    by_rest run n (Ok more) rest whole joins size behind told = cc told
    by_rest run n (Err at) rest whole joins size behind told =
        let found = behind at refl in
        (length run + found.0, omega (arith, same_place at p told, found.1, size), after_run run rest (s ∷ ss) found.0 whole joins found.2)

    by_size : ((at q : ℕ) (l : List (List ℕ)) → length l ≤ most → runs_from most at l ≡ Err q → StopsFrom at l q) → (n : ℕ) → begun_size (s ∷ ss) ≡ n
        → (nat_eq (begun_size (s ∷ ss)) (whole_size s) ≡ true) ⊎ (nat_eq (begun_size (s ∷ ss)) (whole_size s) ≡ false) → StopsFrom place (s ∷ ss) p
    by_size behind n size test =
        elim test [
          | inl full ↦
              let m : ℕ = begun_size (s ∷ ss) in
              let run : List (List ℕ) = take m (s ∷ ss) in
              let rest : List (List ℕ) = drop m (s ∷ ss) in
              let some = whole_some s in
              let equal = eqb-true m (whole_size s) full in
              by_rest run m (runs_from most (place + m) rest) rest (whole_front s ss equal) (take-append-drop m (s ∷ ss)) (taken_size m (s ∷ ss) (begun_within s ss))
              (λ at. behind (place + m) at rest (omega (arith, enough, equal, some, length-drop m (s ∷ ss))))
              (sym (cond-true (nat_eq m (whole_size s)) (before_runs run (runs_from most (place + m) rest)) (Err (place + m)) full) ∙ is)
          | inr few ↦
              let m : ℕ = begun_size (s ∷ ss) in
              let told : place + m ≡ p = same_place (place + m) p (sym (cond-false (nat_eq m (whole_size s)) (before_runs (take m (s ∷ ss)) (runs_from most (place + m) (drop m (s ∷ ss)))) (Err (place + m)) few) ∙ is) in
              (m, sym told, first_stops s ss few)
        ]

pub stopped_runs : (ss : List (List ℕ)) (place : ℕ) → runs_in ss ≡ Err place → StopsAt ss place
stopped_runs ss place is =
    let found = runs_stop (length ss) 0 place ss (omega arith) is in
    subst (StopsAt ss) (omega (arith, found.1)) found.2

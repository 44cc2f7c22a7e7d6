-- Runs one after another.
use Rattle.std.proofs.Common.{◌≡◌, ℕ, zero, suc, ◌+◌, ◌<◌, ◌≤◌, Bool, true, false, not, List, [], ◌∷◌, ◌++◌, length, take, drop, get_or, refl, sym, ap, ◌∙◌, subst, inl, inr, ◌⊎◌, arith, append_assoc, append-nil}
use Rattle.std.specs.Prelude.{Result, Ok, Err, bytes_eq, nat_eq, nat_le, if◌then◌else◌}
use Rattle.std.specs.Cmp.Lexicographic.{bytes_decides}
use Rattle.std.proofs.lemmas.Bool.{and_from, and_parts, cases_Bool, cases_lt, cond-true, cond-false, eq-eqb, eqb-true, ne_eqb, false_from_ne_true, false≢true, le-leb, leb-true, not-true, not_from_false}
use Rattle.std.proofs.lemmas.List.{drop_at, get_or_append_left, get_or-take, length-append, length-drop, length-take, take_at}
use Rattle.ts_section.specs.SectionFields.{current_of, last_number_of, number_of}
use Rattle.ts_section.specs.SectionRun.{stands_alone, IsMember, AllMembers, BeginsRun, IsTableRun, IsRunFault}
use Rattle.tabcomp_core.specs.declared.dividing.NoRuns.{NoRuns}
use Rattle.tabcomp_core.specs.declared.dividing.NoRuns.TheVariants as faults
use Rattle.tabcomp_core.specs.Dividing.{ClosesRun, DividesAt, before_runs, begun_size, is_full, is_member, members_from, runs_from, shared_fields, whole_size}

-- what is divided, after what was divided before
abbrev pub with_runs : List (List (List ℕ)) → Result (List (List (List ℕ))) ℕ → Result (List (List (List ℕ))) ℕ
with_runs front (Ok more) = Ok (front ++ more)
with_runs front (Err place) = Err place

-- ---- members

shared : (first s : List ℕ) (place : ℕ) → IsMember first place s → shared_fields s ≡ shared_fields first
shared first s place m = cc (m.same_id, m.same_extension, m.same_version, m.same_current, m.same_last)

pub member_told : (first s : List ℕ) (place : ℕ) → IsMember first place s → is_member first place s ≡ true
member_told first s place m =
    and_from (not (stands_alone s)) _ (not_from_false (stands_alone s) m.together)
    (and_from (bytes_eq (shared_fields s) (shared_fields first)) _ ((bytes_decides (shared_fields s) (shared_fields first)).1 (shared first s place m))
    (and_from (nat_eq (number_of s) place) (nat_le place (last_number_of first)) (eq-eqb (number_of s) place m.numbered)
    (le-leb place (last_number_of first) m.counted)))

abbrev bit : Bool → ℕ
bit b = if b then 1 else 0

bit_tells : (a b : Bool) → bit a ≡ bit b → a ≡ b
bit_tells true true same = refl
bit_tells true false same = absurd (omega (arith, same))
bit_tells false true same = absurd (omega (arith, same))
bit_tells false false same = refl

heads_same : (x y : ℕ) (xs ys : List ℕ) → x ∷ xs ≡ y ∷ ys → (x ≡ y) × (xs ≡ ys)
heads_same x y xs ys same = (cc same, cc same)

pub member_is : (first s : List ℕ) (place : ℕ) → is_member first place s ≡ true → IsMember first place s
member_is first s place told =
    let outer = and_parts (not (stands_alone s)) _ told in
    let inner = and_parts (bytes_eq (shared_fields s) (shared_fields first)) _ outer.1 in
    let numbers = and_parts (nat_eq (number_of s) place) (nat_le place (last_number_of first)) inner.1 in
    let same : shared_fields s ≡ shared_fields first = (bytes_decides (shared_fields s) (shared_fields first)).0 inner.0 in
    let id = heads_same _ _ _ _ same in
    let extension = heads_same _ _ _ _ id.1 in
    let version = heads_same _ _ _ _ extension.1 in
    let current = heads_same _ _ _ _ version.1 in
    let last = heads_same _ _ _ _ current.1 in
    record {
      together = not-true (stands_alone s) outer.0;
      same_id = id.0;
      same_extension = extension.0;
      same_version = version.0;
      same_current = bit_tells (current_of s) (current_of first) current.0;
      same_last = last.0;
      numbered = eqb-true (number_of s) place numbers.0;
      counted = leb-true place (last_number_of first) numbers.1;
    }

-- ---- how many continue

-- the sections of a list are members from a place on
abbrev pub MembersFrom : List ℕ → ℕ → List (List ℕ) → ℕ → Type 0
MembersFrom first place xs n = (k : ℕ) → k < n → IsMember first (place + k) (get_or xs k [])

pub members_after : (first : List ℕ) (place : ℕ) (x : List ℕ) (xs : List (List ℕ)) (n : ℕ) → MembersFrom first place (x ∷ xs) (suc n)
    → MembersFrom first (place + 1) xs n
members_after first place x xs n members k inside =
    subst (λ at. IsMember first at (get_or xs k [])) (omega arith) (members (suc k) (omega (arith, inside)))

pub members_here : (first : List ℕ) (place : ℕ) (x : List ℕ) (xs : List (List ℕ)) (n : ℕ) → MembersFrom first place (x ∷ xs) (suc n)
    → is_member first place x ≡ true
members_here first place x xs n members =
    member_told first x place (subst (λ at. IsMember first at x) (omega arith) (members 0 (omega arith)))

-- members before others
count_all : (first : List ℕ) (place : ℕ) (xs rest : List (List ℕ)) → MembersFrom first place xs (length xs)
    → members_from first place (xs ++ rest) ≡ members_from first (place + length xs) rest + length xs
unfolding members_from
count_all first place [] rest members =
    let at : place ≡ place + 0 = omega arith in
    omega (arith, ap (λ n. members_from first n rest) at)
count_all first place (x ∷ xs) rest members =
    let more = count_all first (place + 1) xs rest (members_after first place x xs (length xs) members) in
    let at : members_from first (place + 1 + length xs) rest ≡ members_from first (place + suc (length xs)) rest =
    ap (λ n. members_from first n rest) (omega arith) in
    cond-true (is_member first place x) (members_from first (place + 1) (xs ++ rest) + 1) 0 (members_here first place x xs (length xs) members)
    ∙ omega (arith, more, at)

-- members before one that is not
count_to : (first : List ℕ) (place : ℕ) (xs : List (List ℕ)) (n : ℕ) → n < length xs → MembersFrom first place xs n
    → (IsMember first (place + n) (get_or xs n []) → ⊥) → members_from first place xs ≡ n
unfolding members_from
count_to first place [] n inside members other = absurd (omega (arith, inside))
count_to first place (x ∷ xs) zero inside members other =
    cond-false (is_member first place x) (members_from first (place + 1) xs + 1) 0
    (false_from_ne_true (is_member first place x) (λ told. other (subst (λ at. IsMember first at x) (omega arith) (member_is first x place told))))
count_to first place (x ∷ xs) (suc n) inside members other =
    let more = count_to first (place + 1) xs n (omega (arith, inside)) (members_after first place x xs n members)
    (λ m. other (subst (λ at. IsMember first at (get_or xs n [])) (omega arith) m)) in
    cond-true (is_member first place x) (members_from first (place + 1) xs + 1) 0 (members_here first place x xs n members)
    ∙ omega (arith, more)

-- past the last number there is no member
none_past : (first : List ℕ) (place : ℕ) (rest : List (List ℕ)) → last_number_of first < place → members_from first place rest ≡ 0
unfolding members_from
none_past first place [] past = refl
none_past first place (s ∷ ss) past =
    cond-false (is_member first place s) (members_from first (place + 1) ss + 1) 0
    (false_from_ne_true (is_member first place s) (λ told. let m = member_is first s place told in absurd (omega (arith, m.counted, past))))

abbrev wholly : List (List ℕ) → Type 0
wholly [] = ⊥
wholly (s ∷ r) = AllMembers s (s ∷ r) × (length (s ∷ r) ≡ last_number_of s + 1)

whole_members : (s : List ℕ) (r : List (List ℕ)) → stands_alone s ≡ false → IsTableRun (s ∷ r) → wholly (s ∷ r)
whole_members s r together whole =
    elim whole [ inl alone ↦ absurd (false≢true (sym together ∙ alone.0)) | inr members ↦ members ]

whole_alone : (s : List ℕ) (r : List (List ℕ)) → stands_alone s ≡ true → IsTableRun (s ∷ r) → r ≡ []
whole_alone s r alone whole =
    elim whole [
      | inl single ↦ single.1
      | inr members ↦ absurd (false≢true (sym (members.0 0 (omega arith)).together ∙ alone))
    ]

from_all : (s : List ℕ) (r : List (List ℕ)) → AllMembers s (s ∷ r) → MembersFrom s 0 (s ∷ r) (length (s ∷ r))
from_all s r members k inside = subst (λ at. IsMember s at (get_or (s ∷ r) k [])) (omega arith) (members k inside)

-- a whole run before others
pub whole_begun : (s : List ℕ) (r rest : List (List ℕ)) → IsTableRun (s ∷ r)
    → (begun_size ((s ∷ r) ++ rest) ≡ length (s ∷ r)) × (whole_size s ≡ length (s ∷ r))
whole_begun s r rest whole =
    elim (cases_Bool (stands_alone s)) [
      | inl alone ↦
          let one : 1 ≡ length (s ∷ r) = sym (ap (λ l. length (s ∷ l)) (whole_alone s r alone whole)) in
          (cond-true (stands_alone s) 1 (members_from s 0 ((s ∷ r) ++ rest)) alone ∙ one, cond-true (stands_alone s) 1 (last_number_of s + 1) alone ∙ one)
      | inr together ↦
          let members = whole_members s r together whole in
          let all = count_all s 0 (s ∷ r) rest (from_all s r members.0) in
          let past = none_past s (0 + length (s ∷ r)) rest (omega (arith, members.1)) in (
            cond-false (stands_alone s) 1 (members_from s 0 ((s ∷ r) ++ rest)) together ∙ omega (arith, all, past),
            cond-false (stands_alone s) 1 (last_number_of s + 1) together ∙ sym members.1,
          )
    ]

pub members_begun : (s : List ℕ) (r : List (List ℕ)) (n : ℕ) → stands_alone s ≡ false → n ≤ length (s ∷ r)
    → BeginsRun (take n (s ∷ r)) → MembersFrom s 0 (s ∷ r) n
members_begun s r zero together within begins k inside = absurd (omega (arith, inside))
members_begun s r (suc n) together within begins k inside =
    elim begins [
      | inl alone ↦ absurd (false≢true (sym together ∙ alone.0))
      | inr members ↦
          let size : length (take (suc n) (s ∷ r)) ≡ suc n = omega (arith, length-take (suc n) (s ∷ r), within) in
          subst (λ x. IsMember s (0 + k) x) (get_or-take (suc n) (s ∷ r) k [] inside)
          (subst (λ at. IsMember s at (get_or (take (suc n) (s ∷ r)) k [])) (omega arith) (members k (omega (arith, size, inside))))
    ]

pub begins_by : (s : List ℕ) (r : List (List ℕ)) (n : ℕ) → MembersFrom s 0 (s ∷ r) n → BeginsRun (take n (s ∷ r))
begins_by s r zero members = tt
begins_by s r (suc n) members =
    inr (λ k inside.
    let early : k < suc n = omega (arith, length-take (suc n) (s ∷ r), inside) in
    subst (IsMember s k) (sym (get_or-take (suc n) (s ∷ r) k [] early)) (subst (λ at. IsMember s at (get_or (s ∷ r) k [])) (omega arith) (members k early)))

members_and : (s : List ℕ) (r : List (List ℕ)) (n : ℕ) → MembersFrom s 0 (s ∷ r) n → IsMember s (0 + n) (get_or (s ∷ r) n [])
    → MembersFrom s 0 (s ∷ r) (n + 1)
members_and s r n members last k inside =
    elim (cases_lt k n) [
      | inl early ↦ members k early
      | inr late ↦ let at : n ≡ k = omega (arith, late, inside) in subst (λ m. IsMember s (0 + m) (get_or (s ∷ r) m [])) at last
    ]

whole_by : (s : List ℕ) (r : List (List ℕ)) → MembersFrom s 0 (s ∷ r) (length (s ∷ r)) → length (s ∷ r) ≡ last_number_of s + 1 → IsTableRun (s ∷ r)
whole_by s r members all =
    inr (λ k inside. subst (λ at. IsMember s at (get_or (s ∷ r) k [])) (omega arith) (members k inside), all)

none_left : (r : List (List ℕ)) → length r ≤ 0 → r ≡ []
none_left [] few = refl
none_left (x ∷ xs) few = absurd (omega (arith, few))

fewer : (s : List ℕ) (r : List (List ℕ)) (n : ℕ) → length (s ∷ r) ≤ n → (length (s ∷ r) ≡ n → ⊥) → length (s ∷ r) < n
fewer s r n room other =
    elim (cases_lt (length (s ∷ r)) n) [ inl few ↦ few | inr many ↦ absurd (other (omega (arith, room, many))) ]

counts_none : (first : List ℕ) (place : ℕ) → members_from first place [] ≡ 0
unfolding members_from
counts_none first place = refl

stop_within : (first : List ℕ) (xs rest : List (List ℕ)) (p : ℕ) → p < length xs → MembersFrom first 0 xs p
    → (IsMember first (0 + p) (get_or xs p []) → ⊥) → members_from first 0 (xs ++ rest) ≡ p
stop_within first xs rest p inside members other =
    count_to first 0 (xs ++ rest) p (omega (arith, length-append xs rest, inside))
    (λ k early. subst (IsMember first (0 + k)) (sym (get_or_append_left xs rest [] k (omega (arith, early, inside)))) (members k early))
    (λ m. other (subst (IsMember first (0 + p)) (get_or_append_left xs rest [] p inside) m))

-- a run that stops being one, with all that it has or before nothing
pub fault_begun : (s : List ℕ) (r rest : List (List ℕ)) (p : ℕ) → IsRunFault (s ∷ r) p → length (s ∷ r) ≤ whole_size s
    → (length (s ∷ r) ≡ whole_size s) ⊎ (rest ≡ []) → (begun_size ((s ∷ r) ++ rest) ≡ p) × (p < whole_size s)
fault_begun s r rest p fault room ends =
    elim (cases_Bool (stands_alone s)) [
      | inl alone ↦
          let one : length (s ∷ r) ≤ 1 = omega (arith, room, cond-true (stands_alone s) 1 (last_number_of s + 1) alone) in
          absurd (fault.not_whole (inl (alone, none_left r (omega (arith, one)))))
      | inr together ↦
          let size : whole_size s ≡ last_number_of s + 1 = cond-false (stands_alone s) 1 (last_number_of s + 1) together in
          let members = members_begun s r p together fault.within fault.begins in
          let start : begun_size ((s ∷ r) ++ rest) ≡ members_from s 0 ((s ∷ r) ++ rest) = cond-false (stands_alone s) 1 (members_from s 0 ((s ∷ r) ++ rest)) together in
          elim (cases_lt p (length (s ∷ r))) [
            | inl inside ↦
                let other : IsMember s (0 + p) (get_or (s ∷ r) p []) → ⊥ =
                λ m. fault.stops inside (begins_by s r (p + 1) (members_and s r p members m)) in
                (start ∙ stop_within s (s ∷ r) rest p inside members other, omega (arith, inside, room))
            | inr past ↦
                let whole_length : p ≡ length (s ∷ r) = omega (arith, past, fault.within) in
                let few : length (s ∷ r) < whole_size s = fewer s r (whole_size s) room
                (λ all. fault.not_whole (whole_by s r (subst (MembersFrom s 0 (s ∷ r)) whole_length members) (omega (arith, all, size)))) in
                elim ends [
                  | inl full ↦ absurd (omega (arith, full, few))
                  | inr none ↦
                      let all = count_all s 0 (s ∷ r) [] (subst (MembersFrom s 0 (s ∷ r)) whole_length members) in
                      let nothing : members_from s (0 + length (s ∷ r)) [] ≡ 0 = counts_none s (0 + length (s ∷ r)) in
                      (start ∙ ap (λ l. members_from s 0 ((s ∷ r) ++ l)) none ∙ omega (arith, all, nothing, whole_length), omega (arith, whole_length, few))
                ]
          ]
    ]

-- ---- runs one after another

pub whole_some : (s : List ℕ) → 0 < whole_size s
whole_some s =
    elim (cases_Bool (stands_alone s)) [
      | inl alone ↦ omega (arith, cond-true (stands_alone s) 1 (last_number_of s + 1) alone)
      | inr together ↦ omega (arith, cond-false (stands_alone s) 1 (last_number_of s + 1) together)
    ]

-- more turns than sections change nothing
turns : (most other place : ℕ) (l : List (List ℕ)) → length l ≤ most → length l ≤ other
    → runs_from most place l ≡ runs_from other place l
unfolding runs_from
turns most other place [] enough also = refl
turns zero other place (s ∷ ss) enough also = absurd (omega (arith, enough))
turns (suc most) zero place (s ∷ ss) enough also = absurd (omega (arith, also))
turns (suc most) (suc other) place (s ∷ ss) enough also =
    let n = begun_size (s ∷ ss) in
    let rest = drop n (s ∷ ss) in
    let one = before_runs (take n (s ∷ ss)) (runs_from most (place + n) rest) in
    let two = before_runs (take n (s ∷ ss)) (runs_from other (place + n) rest) in
    elim (cases_Bool (nat_eq n (whole_size s))) [
      | inl whole ↦
          let size : length rest ≤ length ss = omega (arith, length-drop n (s ∷ ss), whole_some s, eqb-true n (whole_size s) whole) in
          cond-true (nat_eq n (whole_size s)) one (Err (place + n)) whole
          ∙ ap (before_runs (take n (s ∷ ss))) (turns most other (place + n) rest (omega (arith, enough, size)) (omega (arith, also, size)))
          ∙ sym (cond-true (nat_eq n (whole_size s)) two (Err (place + n)) whole)
      | inr unfull ↦
          cond-false (nat_eq n (whole_size s)) one (Err (place + n)) unfull
          ∙ sym (cond-false (nat_eq n (whole_size s)) two (Err (place + n)) unfull)
    ]

front_more : (front : List (List (List ℕ))) (run : List (List ℕ)) (r : Result (List (List (List ℕ))) ℕ)
    → with_runs front (before_runs run r) ≡ with_runs (front ++ run ∷ []) r
front_more front run (Ok more) = ap Ok (sym (append_assoc front (run ∷ []) more))
front_more front run (Err place) = refl

pub one_run : (s : List ℕ) (r rest : List (List ℕ)) (place : ℕ) → IsTableRun (s ∷ r)
    → runs_from (length ((s ∷ r) ++ rest)) place ((s ∷ r) ++ rest)
    ≡ before_runs (s ∷ r) (runs_from (length rest) (place + length (s ∷ r)) rest)
unfolding runs_from
one_run s r rest place whole =
    let l : List (List ℕ) = (s ∷ r) ++ rest in
    let n : ℕ = begun_size l in
    let m : ℕ = length (r ++ rest) in
    let sizes = whole_begun s r rest whole in
    let all : nat_eq n (whole_size s) ≡ true = eq-eqb n (whole_size s) (sizes.0 ∙ sym sizes.1) in
    cond-true (nat_eq n (whole_size s)) (before_runs (take n l) (runs_from m (place + n) (drop n l))) (Err (place + n)) all
    ∙ ap (λ x. before_runs x (runs_from m (place + n) (drop n l))) (take_at (s ∷ r) rest n (sym sizes.0))
    ∙ ap (λ x. before_runs (s ∷ r) (runs_from m (place + n) x)) (drop_at (s ∷ r) rest n (sym sizes.0))
    ∙ ap (λ x. before_runs (s ∷ r) (runs_from m (place + x) rest)) sizes.0
    ∙ ap (before_runs (s ∷ r)) (turns m (length rest) (place + length (s ∷ r)) rest (omega (arith, length-append r rest)) (omega arith))

one_stop : (s : List ℕ) (r rest : List (List ℕ)) (place p : ℕ) → IsRunFault (s ∷ r) p → length (s ∷ r) ≤ whole_size s
    → (length (s ∷ r) ≡ whole_size s) ⊎ (rest ≡ [])
    → runs_from (length ((s ∷ r) ++ rest)) place ((s ∷ r) ++ rest) ≡ Err (place + p)
unfolding runs_from
one_stop s r rest place p fault room ends =
    let l : List (List ℕ) = (s ∷ r) ++ rest in
    let n : ℕ = begun_size l in
    let stops = fault_begun s r rest p fault room ends in
    let few : nat_eq n (whole_size s) ≡ false = ne_eqb n (whole_size s) (λ same. absurd (omega (arith, stops.0, stops.1, same))) in
    cond-false (nat_eq n (whole_size s)) (before_runs (take n l) (runs_from (length (r ++ rest)) (place + n) (drop n l))) (Err (place + n)) few
    ∙ ap (λ x. Err (place + x)) stops.0

-- ---- for the loop

-- sections that begin a run have room in it, and more than that
abbrev pub HasRoom : List (List ℕ) → Type 0
HasRoom [] = ⊥
HasRoom (s ∷ r) = length (s ∷ r) ≤ whole_size s

abbrev pub IsOpen : List (List ℕ) → Type 0
IsOpen [] = Unit {0}
IsOpen (s ∷ r) = length (s ∷ r) < whole_size s

pub room_pushed : (begun : List (List ℕ)) (s : List ℕ) → IsOpen begun → HasRoom (begun ++ s ∷ [])
room_pushed [] s unfull = whole_some s
room_pushed (x ∷ xs) s unfull = omega (arith, length-append xs (s ∷ []), unfull)

pub open_room : (begun : List (List ℕ)) → 0 < length begun → IsOpen begun → HasRoom begun
open_room [] some unfull = absurd (omega (arith, some))
open_room (s ∷ r) some unfull = omega (arith, unfull)

full_ends : (s : List ℕ) (r rest : List (List ℕ)) → (is_full (s ∷ r) ≡ true) ⊎ (rest ≡ []) → (length (s ∷ r) ≡ whole_size s) ⊎ (rest ≡ [])
full_ends s r rest ends =
    elim ends [ inl full ↦ inl (eqb-true (length (s ∷ r)) (whole_size s) full) | inr none ↦ inr none ]

pub run_goes_on : (front : List (List (List ℕ))) (place : ℕ) (run rest : List (List ℕ)) (whole : Result (List (List (List ℕ))) ℕ)
    → IsTableRun run → with_runs front (runs_from (length (run ++ rest)) place (run ++ rest)) ≡ whole
    → with_runs (front ++ run ∷ []) (runs_from (length rest) (place + length run) rest) ≡ whole
run_goes_on front place [] rest whole is so_far = absurd is
run_goes_on front place (s ∷ r) rest whole is so_far =
    sym (front_more front (s ∷ r) (runs_from (length rest) (place + length (s ∷ r)) rest))
    ∙ sym (ap (with_runs front) (one_run s r rest place is)) ∙ so_far

pub run_stops : (front : List (List (List ℕ))) (place p : ℕ) (begun rest : List (List ℕ)) (whole : Result (List (List (List ℕ))) ℕ)
    → IsRunFault begun p → HasRoom begun → (is_full begun ≡ true) ⊎ (rest ≡ [])
    → with_runs front (runs_from (length (begun ++ rest)) place (begun ++ rest)) ≡ whole → whole ≡ Err (place + p)
run_stops front place p [] rest whole fault room ends so_far = absurd room
run_stops front place p (s ∷ r) rest whole fault room ends so_far =
    sym so_far ∙ ap (with_runs front) (one_stop s r rest place p fault room (full_ends s r rest ends))

pub runs_done : (front : List (List (List ℕ))) (place : ℕ) (whole : Result (List (List (List ℕ))) ℕ)
    → with_runs front (runs_from 0 place []) ≡ whole → whole ≡ Ok front
unfolding runs_from
runs_done front place whole so_far = sym so_far ∙ ap Ok (append-nil front)

joined_run : (begun run old new : List (List ℕ)) (s : List ℕ) → old ≡ s ∷ new → run ≡ begun ++ s ∷ [] → begun ++ old ≡ run ++ new
joined_run begun run old new s next grown =
    ap (λ l. begun ++ l) next ∙ sym (append_assoc begun (s ∷ []) new) ∙ sym (ap (λ l. l ++ new) grown)

-- what is left to divide gives the whole
abbrev pub GoesOn : List (List (List ℕ)) → ℕ → List (List ℕ) → Result (List (List (List ℕ))) ℕ → Type 0
GoesOn front place l whole = with_runs front (runs_from (length l) place l) ≡ whole

pub loop_closes : (front after : List (List (List ℕ))) (place size : ℕ) (begun run left old new : List (List ℕ)) (s : List ℕ)
    (whole : Result (List (List (List ℕ))) ℕ) → GoesOn front place (begun ++ old) whole → old ≡ s ∷ new → run ≡ begun ++ s ∷ []
    → IsTableRun run → after ≡ front ++ run ∷ [] → size ≡ length run → left ≡ [] → GoesOn after (place + size) (left ++ new) whole
loop_closes front after place size begun run left old new s whole so_far next grown is pushed counted empty =
    ap (λ l. with_runs l (runs_from (length (left ++ new)) (place + size) (left ++ new))) pushed
    ∙ ap (λ n. with_runs (front ++ run ∷ []) (runs_from (length (left ++ new)) (place + n) (left ++ new))) counted
    ∙ ap (λ l. with_runs (front ++ run ∷ []) (runs_from (length (l ++ new)) (place + length run) (l ++ new))) empty
    ∙ run_goes_on front place run new whole is (subst (λ l. GoesOn front place l whole) (joined_run begun run old new s next grown) so_far)

pub loop_stops : (front : List (List (List ℕ))) (place p : ℕ) (begun run old new : List (List ℕ)) (s : List ℕ)
    (whole : Result (List (List (List ℕ))) ℕ) → GoesOn front place (begun ++ old) whole → old ≡ s ∷ new → run ≡ begun ++ s ∷ []
    → IsOpen begun → is_full run ≡ true → IsRunFault run p → whole ≡ Err (place + p)
loop_stops front place p begun run old new s whole so_far next grown room full fault =
    run_stops front place p run new whole fault (subst HasRoom (sym grown) (room_pushed begun s room)) (inl full)
    (subst (λ l. GoesOn front place l whole) (joined_run begun run old new s next grown) so_far)

pub loop_done : (front : List (List (List ℕ))) (place : ℕ) (begun rest : List (List ℕ)) (whole : Result (List (List (List ℕ))) ℕ)
    → length begun ≡ 0 → length rest ≡ 0 → GoesOn front place (begun ++ rest) whole → whole ≡ Ok front
loop_done front place begun rest whole none nothing so_far =
    let empty : begun ++ rest ≡ [] = ap (λ l. l ++ rest) (none_left begun (omega (arith, none))) ∙ none_left rest (omega (arith, nothing)) in
    runs_done front place whole (subst (λ l. GoesOn front place l whole) empty so_far)

pub end_stops : (front : List (List (List ℕ))) (place p : ℕ) (begun rest : List (List ℕ)) (whole : Result (List (List (List ℕ))) ℕ)
    → 0 < length begun → length rest ≡ 0 → IsOpen begun → GoesOn front place (begun ++ rest) whole → IsRunFault begun p → whole ≡ Err (place + p)
end_stops front place p begun rest whole some nothing room so_far fault =
    run_stops front place p begun rest whole fault (open_room begun some room) (inr (none_left rest (omega (arith, nothing)))) so_far

pub stop_told : {X : Type 0} (view : X → List (List ℕ)) (fault : NoRuns) (place : ℕ) (run : List (List ℕ)) (whole : Result (List (List (List ℕ))) ℕ)
    → ClosesRun place run view (Err fault) → ((p : ℕ) → IsRunFault run p → whole ≡ Err (place + p)) → DividesAt fault whole
stop_told view (faults.Place at) place run whole closes stops = stops closes.0 closes.2 ∙ ap Err (sym closes.1)
stop_told view faults.NoMemory place run whole closes stops = absurd closes

pub some_there : (l : List (List ℕ)) → (length l ≡ 0 → ⊥) → 0 < length l
some_there [] some = absurd (some refl)
some_there (s ∷ ss) some = omega arith

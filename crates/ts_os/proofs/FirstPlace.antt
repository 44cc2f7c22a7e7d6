-- A list and the first element that passes a test, by what `position` answered.
use Rattle.std.proofs.Common.{◌≡◌, ◌∙◌, ◌+◌, ◌≤◌, ◌++◌, ℕ, suc, Bool, true, false, cond, List, [], length, drop, Option, Some, None, refl, ap, sym, arith, append-nil, get_or, nat_lt}
use Rattle.std.specs.List.{position, position_or_len, before_first, after_first, find, remove, slice_get}
use Rattle.std.specs.Option.{unwrap_or}
use Rattle.std.proofs.lemmas.Bool.Decides.{nat_tests}
use Rattle.std.proofs.lemmas.List.{take_all, drop_all}
use Rattle.std.proofs.lemmas.List.Folds.{find_at}
use Rattle.std.proofs.lemmas.List.Quantifiers.{position-Some}
use Rattle.std.proofs.lemmas.Option.{slice_get_read, slice_get_past}

is_place : (b : Bool) (n m : ℕ) → cond b (Some n) None ≡ Some m → n ≡ m
is_place true n m e = ap (λ (place : Option ℕ). unwrap_or place 0) e
is_place false n m e = grind arith

is_past : (b : Bool) (n : ℕ) → cond b (Some n) None ≡ None → b ≡ false
is_past true n e = grind arith
is_past false n e = refl

past_all : {X : Type 0} (test : X → Bool) (xs : List X) → position test xs ≡ None → length xs ≤ position_or_len test xs
past_all test xs e =
    let past : nat_lt (position_or_len test xs) (length xs) ≡ false = is_past _ _ e in
    grind (arith, nat_tests)

-- where the place was found, the element there was removed
pub without_found : {X : Type 0} (test : X → Bool) (xs : List X) (n : ℕ) → position test xs ≡ Some n → remove xs n ≡ before_first test xs ++ after_first test xs
without_found test xs n e =
    let behind : suc (position_or_len test xs) ≡ position_or_len test xs + 1 = omega arith in
    ap (remove xs) (sym (is_place _ _ _ e)) ∙ ap (λ (from : ℕ). before_first test xs ++ drop from xs) behind

-- where there is no place, the list stayed
pub without_none : {X : Type 0} (test : X → Bool) (xs : List X) → position test xs ≡ None → xs ≡ before_first test xs ++ after_first test xs
without_none test xs e =
    let past : length xs ≤ position_or_len test xs = past_all test xs e in
    let none : after_first test xs ≡ [] = drop_all (position_or_len test xs + 1) xs (omega arith) in
    sym (ap (λ rest. before_first test xs ++ rest) none ∙ append-nil (before_first test xs) ∙ take_all (position_or_len test xs) xs past)

-- the element at the place is the first that passes
pub found_first : {X : Type 0} (test : X → Bool) (xs : List X) (n : ℕ) (x : X) → position test xs ≡ Some n → x ≡ get_or xs n x → find test xs ≡ Some x
found_first test xs n x e read =
    find_at test xs ∙ ap (slice_get xs) (is_place _ _ _ e) ∙ slice_get_read xs (length xs) n x refl (position-Some test xs n x e).0 read

pub found_none : {X : Type 0} (test : X → Bool) (xs : List X) → position test xs ≡ None → find test xs ≡ None
found_none test xs e = find_at test xs ∙ slice_get_past xs (position_or_len test xs) (past_all test xs e)

-- The greatest agreement, one stage after another.
use Rattle.std.proofs.Common.{◌≡◌, ℕ, zero, suc, max, ◌+◌, ◌-◌, ◌<◌, ◌≤◌, subst, arith, List, [], ◌∷◌, ◌++◌, map, Bool, true, false, Option, Some, None, refl, ap, sym, ◌∙◌, add-one}
use Rattle.std.proofs.lemmas.List.{map-append}
use Rattle.std.proofs.lemmas.Bool.{cond-true, cond-false}
use Rattle.chain_model.specs.Joint.{greatest_with, greatest_if_all}
use Rattle.chain_core.specs.declared.stage_set.StageSet.{StageSet}
use Rattle.chain_core.specs.Stages.{has_stage, stages_below, stages_of, IsNextFrom}
use Rattle.chain_core.specs.CoreNumbers.{greatest_more}

-- somebody was asked
abbrev pub is_asked : List ℕ → Bool
is_asked [] = false
is_asked (x ∷ xs) = true

greatest_with-push : (n : ℕ) (xs : List (Option ℕ)) (o : Option ℕ) → greatest_with n (xs ++ o ∷ []) ≡ greatest_more true (greatest_with n xs) o
greatest_with-push n [] None = refl
greatest_with-push n [] (Some m) = refl
greatest_with-push n (None ∷ xs) o = refl
greatest_with-push n (Some m ∷ xs) o = greatest_with-push (max n m) xs o

greatest-push : (f : ℕ → Option ℕ) (xs : List ℕ) (k : ℕ) → greatest_if_all (map f (xs ++ k ∷ [])) ≡ greatest_more (is_asked xs) (greatest_if_all (map f xs)) (f k)
greatest-push f [] k = one (f k)
  where
    one : (o : Option ℕ) → greatest_if_all (o ∷ []) ≡ o
    one None = refl
    one (Some n) = refl
greatest-push f (x ∷ xs) k =
    ap (λ (l : List (Option ℕ)). greatest_if_all (f x ∷ l)) (map-append f xs (k ∷ [])) ∙ more (f x)
  where
    more : (o : Option ℕ) → greatest_if_all (o ∷ (map f xs ++ f k ∷ [])) ≡ greatest_more true (greatest_if_all (o ∷ map f xs)) (f k)
    more None = refl
    more (Some n) = greatest_with-push n (map f xs) (f k)

asked-push : (xs : List ℕ) (k : ℕ) → is_asked (xs ++ k ∷ []) ≡ true
asked-push [] k = refl
asked-push (x ∷ xs) k = refl

below-has : (set : StageSet) (n : ℕ) → has_stage set n ≡ true → stages_below (n + 1) set ≡ stages_below n set ++ n ∷ []
unfolding stages_below
below-has set n is =
    ap (λ i. stages_below i set) (add-one n) ∙ ap (λ (l : List ℕ). stages_below n set ++ l) (cond-true (has_stage set n) (n ∷ []) [] is)

below-not : (set : StageSet) (n : ℕ) → has_stage set n ≡ false → stages_below (n + 1) set ≡ stages_below n set
unfolding stages_below
below-not set n is =
    ap (λ i. stages_below i set) (add-one n) ∙ (ap (λ (l : List ℕ). stages_below n set ++ l) (cond-false (has_stage set n) (n ∷ []) [] is) ∙ append-nil (stages_below n set))
  where
    append-nil : (xs : List ℕ) → xs ++ [] ≡ xs
    append-nil [] = refl
    append-nil (x ∷ xs) = ap (λ l. x ∷ l) (append-nil xs)

-- what is known of the stages below a number
pub record IsLimitBelow (set : StageSet) (f : ℕ → Option ℕ) (n : ℕ) (asked : Bool) (limit : Option ℕ) : Type 0 where
  pub is_asked_ : asked ≡ is_asked (stages_below n set)
  pub is_limit : limit ≡ greatest_if_all (map f (stages_below n set))

pub limit-none : (set : StageSet) (f : ℕ → Option ℕ) → IsLimitBelow set f 0 false None
unfolding stages_below
limit-none set f = record { is_asked_ = refl; is_limit = refl }

pub limit-has : (set : StageSet) (f : ℕ → Option ℕ) (n : ℕ) (asked : Bool) (limit joined : Option ℕ) → IsLimitBelow set f n asked limit → has_stage set n ≡ true → joined ≡ greatest_more asked limit (f n) → IsLimitBelow set f (n + 1) true joined
limit-has set f n asked limit joined so_far is e = record {
  is_asked_ = sym (ap is_asked (below-has set n is) ∙ asked-push (stages_below n set) n);
  is_limit = e
      ∙ (ap (λ (b : Bool). greatest_more b limit (f n)) so_far.is_asked_
      ∙ (ap (λ (o : Option ℕ). greatest_more (is_asked (stages_below n set)) o (f n)) so_far.is_limit
      ∙ (sym (greatest-push f (stages_below n set) n)
      ∙ ap (λ (l : List ℕ). greatest_if_all (map f l)) (sym (below-has set n is)))));
}

pub limit-not : (set : StageSet) (f : ℕ → Option ℕ) (n : ℕ) (asked : Bool) (limit : Option ℕ) → IsLimitBelow set f n asked limit → has_stage set n ≡ false → IsLimitBelow set f (n + 1) asked limit
limit-not set f n asked limit so_far is = record {
  is_asked_ = so_far.is_asked_ ∙ ap is_asked (sym (below-not set n is));
  is_limit = so_far.is_limit ∙ ap (λ (l : List ℕ). greatest_if_all (map f l)) (sym (below-not set n is));
}

-- over numbers that are not in the set
pub limit-over : (set : StageSet) (f : ℕ → Option ℕ) (n : ℕ) (asked : Bool) (limit : Option ℕ) → IsLimitBelow set f n asked limit → (more : ℕ) → ((k : ℕ) → n ≤ k → k < n + more → has_stage set k ≡ false) → IsLimitBelow set f (n + more) asked limit
limit-over set f n asked limit so_far zero none =
    let same : n ≡ n + 0 = omega arith in subst (λ k. IsLimitBelow set f k asked limit) same so_far
limit-over set f n asked limit so_far (suc more) none =
    let next : n + more + 1 ≡ n + suc more = omega arith in
    subst (λ k. IsLimitBelow set f k asked limit) next
    (limit-not set f (n + more) asked limit (limit-over set f n asked limit so_far more (λ k from lt. none k from (omega arith))) (none (n + more) (omega arith) (omega arith)))

-- up to a number below which no more are in the set
pub limit-upto : (set : StageSet) (f : ℕ → Option ℕ) (n to : ℕ) (asked : Bool) (limit : Option ℕ) → IsLimitBelow set f n asked limit → n ≤ to → ((k : ℕ) → n ≤ k → k < to → has_stage set k ≡ false) → IsLimitBelow set f to asked limit
limit-upto set f n to asked limit so_far le none =
    let end : n + (to - n) ≡ to = omega arith in
    subst (λ k. IsLimitBelow set f k asked limit) end (limit-over set f n asked limit so_far (to - n) (λ k from lt. none k from (omega arith)))

-- with the next one
pub limit-next : (set : StageSet) (f : ℕ → Option ℕ) (n stage : ℕ) (asked : Bool) (limit joined : Option ℕ) → IsLimitBelow set f n asked limit → IsNextFrom set n stage → joined ≡ greatest_more asked limit (f stage) → IsLimitBelow set f (stage + 1) true joined
limit-next set f n stage asked limit joined so_far next e =
    limit-has set f stage asked limit joined (limit-upto set f n stage asked limit so_far next.from_on next.none_before) next.has e

pub limit-all : (set : StageSet) (f : ℕ → Option ℕ) (asked : Bool) (limit : Option ℕ) → IsLimitBelow set f 64 asked limit → limit ≡ greatest_if_all (map f (stages_of set))
unfolding stages_of
limit-all set f asked limit all = all.is_limit

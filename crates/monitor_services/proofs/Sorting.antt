-- Lemmas on numbers in order: those below a bound that are in a list.
use Rattle.std.proofs.Common.{◌≡◌, ◌≢◌, ℕ, zero, suc, ◌<◌, ◌≤◌, List, [], ◌∷◌, filter, ap, sym, subst, ◌∙◌, inl, inr, refl, Bool, true, false, ◌==◌, ◌||◌, arith}
use Rattle.std.specs.List.{All, Contains}
use Rattle.std.specs.List.Sorted.{IsStrictlyIncreasing}
use Rattle.std.proofs.lemmas.Bool.{both_ways, cases_eq, cases_order, eq-eqb, eqb-true, false≢true, ne_eqb, or_cases, or_parts, or_right}
use Rattle.std.proofs.lemmas.List.Elements.{All-cons, All-head, All-tail}
use Rattle.std.proofs.lemmas.List.Kept.{AllPairs-from_increasing}
use Rattle.plugin_notes.specs.PidPackets.{numbers_below}
use Rattle.monitor_rows.specs.KeyRows.{has_number}
use Rattle.monitor_rows.specs.RowStands.{AreAscending}
use Rattle.monitor_rows.proofs.Numbers.{absent_fails, chosen_are, chosen_ascend}

-- ---- a number in a list

-- one that is in a list passes what all pass
pub has-all : (P : ℕ → Type 0) (xs : List ℕ) (n : ℕ) → All P xs → has_number xs n ≡ true → P n
has-all P [] n all has = absurd (false≢true has)
has-all P (x ∷ xs) n all has = elim (or_cases (x == n) (has_number xs n) has) [
  | inl here ↦ subst P (eqb-true x n here) (All-head P x xs all)
  | inr behind ↦ has-all P xs n (All-tail P x xs all) behind
]

-- all others are other ones
pub absent-all : (xs : List ℕ) (n : ℕ) → has_number xs n ≡ false → All (λ k. k ≢ n) xs
absent-all [] n none = λ i d less. absurd (omega (arith, less))
absent-all (x ∷ xs) n none =
    All-cons (λ k. k ≢ n) x xs (λ same. both_ways (x == n) (or_parts (x == n) (has_number xs n) none).0 (eq-eqb x n same))
    (absent-all xs n (or_parts (x == n) (has_number xs n) none).1)

-- it is at a place
pub has-contains : (xs : List ℕ) (n : ℕ) → has_number xs n ≡ true → Contains xs n
has-contains [] n has = absurd (false≢true has)
has-contains (x ∷ xs) n has = elim (or_cases (x == n) (has_number xs n) has) [
  | inl here ↦ (zero, omega arith, eqb-true x n here)
  | inr behind ↦
      let found = has-contains xs n behind in
      (suc found.0, omega (arith, found.1), found.2)
]

pub contains-has : (xs : List ℕ) (n : ℕ) → Contains xs n → has_number xs n ≡ true
contains-has [] n found = absurd (omega (arith, found.1))
contains-has (x ∷ xs) n (zero, less, is) = ap (λ (b : Bool). b || has_number xs n) (eq-eqb x n is)
contains-has (x ∷ xs) n (suc k, less, is) = or_right (x == n) (has_number xs n) (contains-has xs n (k, omega (arith, less), is))

-- two tests are the same where each follows from the other
pub both-same : (a b : Bool) → (a ≡ true → b ≡ true) → (b ≡ true → a ≡ true) → a ≡ b
both-same true b to back = sym (to refl)
both-same false true to back = back refl
both-same false false to back = refl

-- ---- ascending numbers

tail-ascends : (x : ℕ) (xs : List ℕ) → AreAscending (x ∷ xs) → AreAscending xs
tail-ascends x xs ascend = λ i j d before within. ascend (suc i) (suc j) d (omega (arith, before)) (omega (arith, within))

-- the first is below the others
head-below : (x : ℕ) (xs : List ℕ) → AreAscending (x ∷ xs) → All (λ k. x < k) xs
head-below x xs ascend = λ i d within. ascend zero (suc i) d (omega arith) (omega (arith, within))

-- a number that is not above the first is not among the others
not-behind : (x n : ℕ) (xs : List ℕ) → n ≤ x → AreAscending (x ∷ xs) → has_number xs n ≡ false
not-behind x n xs le ascend = by_has (has_number xs n) refl
  where
    by_has : (b : Bool) → has_number xs n ≡ b → has_number xs n ≡ false
    by_has false none = none
    by_has true has = absurd (omega (arith, le, has-all (λ k. x < k) xs n (head-below x xs ascend) has))

-- the first of two lists with the same numbers is not below that of the other
first-least : (x y : ℕ) (xs ys : List ℕ) → AreAscending (y ∷ ys) → ((n : ℕ) → has_number (x ∷ xs) n ≡ has_number (y ∷ ys) n) → y ≤ x
first-least x y xs ys ascend same = elim (cases_order x y) [
  | inl at ↦ omega (arith, at)
  | inr (inr above) ↦ omega (arith, above)
  | inr (inl below) ↦
      absurd (both_ways (has_number (y ∷ ys) x)
      (ap (λ (b : Bool). b || has_number ys x) (ne_eqb y x (λ at. omega (arith, below, at))) ∙ not-behind y x ys (omega (arith, below)) ascend)
      (sym (same x) ∙ ap (λ (b : Bool). b || has_number xs x) (eq-eqb x x refl)))
]

-- ascending lists with the same numbers are the same
pub same_numbers : (xs ys : List ℕ) → AreAscending xs → AreAscending ys → ((n : ℕ) → has_number xs n ≡ has_number ys n) → xs ≡ ys
same_numbers [] [] up_x up_y same = refl
same_numbers [] (y ∷ ys) up_x up_y same = absurd (false≢true (same y ∙ ap (λ (b : Bool). b || has_number ys y) (eq-eqb y y refl)))
same_numbers (x ∷ xs) [] up_x up_y same =
    absurd (false≢true (sym (same x) ∙ ap (λ (b : Bool). b || has_number xs x) (eq-eqb x x refl)))
same_numbers (x ∷ xs) (y ∷ ys) up_x up_y same =
    ap (λ (k : ℕ). k ∷ xs) firsts ∙ ap (λ (ks : List ℕ). y ∷ ks) (same_numbers xs ys (tail-ascends x xs up_x) (tail-ascends y ys up_y) behind)
  where
    firsts : x ≡ y
    firsts = omega (arith, first-least x y xs ys up_y same, first-least y x ys xs up_x (λ n. sym (same n)))

    behind : (n : ℕ) → has_number xs n ≡ has_number ys n
    behind n = elim (cases_eq x n) [
      | inl at ↦ not-behind x n xs (omega (arith, at)) up_x ∙ sym (not-behind y n ys (omega (arith, at, firsts)) up_y)
      | inr other ↦
          sym (ap (λ (b : Bool). b || has_number xs n) (ne_eqb x n other))
          ∙ (same n ∙ ap (λ (b : Bool). b || has_number ys n) (ne_eqb y n (λ at. other (firsts ∙ at))))
    ]

-- ---- those below a bound that are in a list

-- a number below it is among those that pass a test where it passes
pub chosen_member : (f : ℕ → Bool) (bound n : ℕ) → n < bound → has_number (filter f (numbers_below bound)) n ≡ f n
chosen_member f bound n less =
    both-same (has_number (filter f (numbers_below bound)) n) (f n)
    (λ has. (has-all (λ k. (k < bound) × (f k ≡ true)) (filter f (numbers_below bound)) n (chosen_are f bound) has).1)
    (λ is. by_chosen is (has_number (filter f (numbers_below bound)) n) refl)
  where
    by_chosen : f n ≡ true → (b : Bool) → has_number (filter f (numbers_below bound)) n ≡ b → has_number (filter f (numbers_below bound)) n ≡ true
    by_chosen is true has = has
    by_chosen is false none =
        absurd (both_ways (f n) (absent_fails f bound n less (absent-all (filter f (numbers_below bound)) n none)) is)

-- they have the numbers of a list, where all of these are below
chosen-has : (xs : List ℕ) (bound n : ℕ) → All (λ k. k < bound) xs → has_number (filter (has_number xs) (numbers_below bound)) n ≡ has_number xs n
chosen-has xs bound n all =
    both-same (has_number (filter (has_number xs) (numbers_below bound)) n) (has_number xs n)
    (λ has. (has-all (λ k. (k < bound) × (has_number xs k ≡ true)) (filter (has_number xs) (numbers_below bound)) n (chosen_are (has_number xs) bound) has).1)
    (λ has. chosen_member (has_number xs) bound n (has-all (λ k. k < bound) xs n all has) ∙ has)

-- ascending numbers are those that are named, where they have the same ones, and all are below the bound
pub ascending_are_chosen : (sorted xs : List ℕ) (bound : ℕ) → IsStrictlyIncreasing sorted → ((n : ℕ) → Contains xs n → Contains sorted n)
    → ((n : ℕ) → Contains sorted n → Contains xs n) → All (λ k. k < bound) xs → sorted ≡ filter (has_number xs) (numbers_below bound)
ascending_are_chosen sorted xs bound rises keeps adds_none all =
    same_numbers sorted (filter (has_number xs) (numbers_below bound)) (AllPairs-from_increasing sorted rises) (chosen_ascend (has_number xs) bound)
    (λ n. both-same (has_number sorted n) (has_number xs n)
    (λ has. contains-has xs n (adds_none n (has-contains sorted n has)))
    (λ has. contains-has sorted n (keeps n (has-contains xs n has)))
    ∙ sym (chosen-has xs bound n all))

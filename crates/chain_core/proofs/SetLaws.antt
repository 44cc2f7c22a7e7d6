-- The bits of a set of stages.
use Rattle.std.proofs.Common.{◌≡◌, ◌≢◌, append-nil, subst, ℕ, zero, suc, ◌*◌, ◌^◌, ◌%◌, ◌/◌, ◌<◌, ◌≤◌, List, [], ◌∷◌, ◌++◌, Bool, true, false, cond, refl, ap, sym, ◌∙◌, arith, w64, inl, inr, bit_and, bit_or}
use Rattle.std.specs.Prelude.{nat_lt, ◌==◌, ◌&&◌, ◌||◌, ◌+◌, ◌-◌}
use Rattle.std.specs.Int.{bit_at, trailing_zeros}
use Rattle.std.specs.List.{AllByRecursion}
use Rattle.std.proofs.lemmas.Bool.{cases_eq, cases_lt, cases_Bool, cond-true, lt-ltb, le-ltb, eq-eqb, ne_eqb, cond-false}
use Rattle.std.proofs.lemmas.Nat.{shr-shr}
use Rattle.std.proofs.lemmas.Nat.Bits.{shr_and_one, bit_at-zero, bit_at_set_same, bit_at_set_other, bit_at-trailing_zeros, bit_at_above}
use Rattle.chain_core.specs.declared.stage_set.StageSet.{StageSet}
use Rattle.chain_core.specs.Stages.{has_stage, stages_below, stages_of, IsNextFrom}

-- the test of the code
pub has-bits : (set : StageSet) (k : ℕ) → k < 64 → (bit_and (set.bits / 2 ^ k) 1 == 1) ≡ has_stage set k
unfolding has_stage
has-bits set k lt =
    ap (λ (n : ℕ). n == 1) (shr_and_one set.bits k) ∙ sym (ap (λ (b : Bool). b && bit_at set.bits k == 1) (lt-ltb k 64 lt))

pub has-beyond : (set : StageSet) (k : ℕ) → 64 ≤ k → has_stage set k ≡ false
unfolding has_stage
has-beyond set k le = ap (λ (b : Bool). b && bit_at set.bits k == 1) (le-ltb k 64 le)

none-has : (k : ℕ) → has_stage (record { bits = 0 }) k ≡ false
unfolding has_stage
none-has k =
    ap (λ (n : ℕ). nat_lt k 64 && n == 1) (bit_at-zero k) ∙ and_no (nat_lt k 64)
  where
    and_no : (b : Bool) → (b && false) ≡ false
    and_no true = refl
    and_no false = refl

none-below : (n : ℕ) → stages_below n (record { bits = 0 }) ≡ []
unfolding stages_below
none-below zero = refl
none-below (suc n) =
    ap (λ (l : List ℕ). l ++ cond (has_stage (record { bits = 0 }) n) (n ∷ []) []) (none-below n) ∙ cond-false (has_stage (record { bits = 0 }) n) (n ∷ []) [] (none-has n)

pub none-stages : stages_of (record { bits = 0 }) ≡ []
unfolding stages_of
none-stages = none-below 64

-- the set with a stage more
pub with-has : (set : StageSet) (stage : ℕ) → stage < 64 → (k : ℕ) → has_stage (record { bits = bit_or set.bits (1 * 2 ^ stage % 2 ^ 64) }) k ≡ (k == stage || has_stage set k)
unfolding has_stage
with-has set stage lt k =
    elim (cases_eq k stage) [
      | inl same ↦ ap (λ i. nat_lt i 64 && bit_at (bit_or set.bits (1 * 2 ^ stage % 2 ^ 64)) i == 1) same
          ∙ (ap (λ (b : Bool). b && bit_at (bit_or set.bits (1 * 2 ^ stage % 2 ^ 64)) stage == 1) (lt-ltb stage 64 lt)
          ∙ (ap (λ (n : ℕ). n == 1) (bit_at_set_same w64 set.bits stage lt)
          ∙ sym (ap (λ (b : Bool). b || (nat_lt k 64 && bit_at set.bits k == 1)) (eq-eqb k stage same))))
      | inr apart ↦ ap (λ (n : ℕ). nat_lt k 64 && n == 1) (bit_at_set_other w64 set.bits stage lt k apart) ∙ sym (ap (λ (b : Bool). b || (nat_lt k 64 && bit_at set.bits k == 1)) (ne_eqb k stage apart))
    ]

-- ---- a stage above all others

all-left : (P : ℕ → Type 0) (xs ys : List ℕ) → AllByRecursion P (xs ++ ys) → AllByRecursion P xs
all-left P [] ys all = tt
all-left P (x ∷ xs) ys all = (all.0, all-left P xs ys all.1)

all-right : (P : ℕ → Type 0) (xs ys : List ℕ) → AllByRecursion P (xs ++ ys) → AllByRecursion P ys
all-right P [] ys all = all
all-right P (x ∷ xs) ys all = all-right P xs ys all.1

-- what holds of all stages of a set holds of each that it has
below-each : (P : ℕ → Type 0) (set : StageSet) (n : ℕ) → AllByRecursion P (stages_below n set) → (k : ℕ) → k < n → has_stage set k ≡ true → P k
unfolding stages_below
below-each P set zero all k lt has = absurd (omega arith)
below-each P set (suc m) all k lt has =
    elim (cases_eq k m) [
      | inl same ↦ subst P (sym same) (subst (λ (l : List ℕ). AllByRecursion P l) (cond-true (has_stage set m) (m ∷ []) [] (ap (has_stage set) (sym same) ∙ has)) (all-right P (stages_below m set) (cond (has_stage set m) (m ∷ []) []) all)).0
      | inr apart ↦ below-each P set m (all-left P (stages_below m set) (cond (has_stage set m) (m ∷ []) []) all) k (omega arith) has
    ]

has-within : (set : StageSet) (k : ℕ) → has_stage set k ≡ true → k < 64
has-within set k has =
    elim (cases_lt k 64) [
      | inl lt ↦ lt
      | inr le ↦ (let f = has-beyond set k le in absurd cc)
    ]

pub stages-each : (P : ℕ → Type 0) (set : StageSet) → AllByRecursion P (stages_of set) → (k : ℕ) → has_stage set k ≡ true → P k
unfolding stages_of
stages-each P set all k has = below-each P set 64 all k (has-within set k has) has

more-below : (set : StageSet) (n : ℕ) → has_stage set n ≡ true → stages_below (suc n) set ≡ stages_below n set ++ n ∷ []
unfolding stages_below
more-below set n is =
    ap (λ (l : List ℕ). stages_below n set ++ l) (cond-true (has_stage set n) (n ∷ []) [] is)

no-more : (set : StageSet) (n : ℕ) → has_stage set n ≡ false → stages_below (suc n) set ≡ stages_below n set
unfolding stages_below
no-more set n is =
    ap (λ (l : List ℕ). stages_below n set ++ l) (cond-false (has_stage set n) (n ∷ []) [] is) ∙ append-nil (stages_below n set)

same-one : (a b : StageSet) (n : ℕ) → has_stage a n ≡ has_stage b n → stages_below n a ≡ stages_below n b → stages_below (suc n) a ≡ stages_below (suc n) b
unfolding stages_below
same-one a b n has below = λ i. below i ++ cond (has i) (n ∷ []) []

module _ (old new : StageSet) (stage : ℕ) (lt : stage < 64) (has : (k : ℕ) → has_stage new k ≡ (k == stage || has_stage old k)) (above : (k : ℕ) → has_stage old k ≡ true → k < stage) where
  has-other : (k : ℕ) → k ≢ stage → has_stage new k ≡ has_stage old k
  has-other k apart = has k ∙ ap (λ (b : Bool). b || has_stage old k) (ne_eqb k stage apart)

  not-above : (k : ℕ) → stage ≤ k → has_stage old k ≡ false
  not-above k le =
      elim (cases_Bool (has_stage old k)) [
        | inl yes_ ↦ (let l = above k yes_ in absurd (omega arith))
        | inr no_ ↦ no_
      ]

  same-below : (n : ℕ) → n ≤ stage → stages_below n new ≡ stages_below n old
  unfolding stages_below
  same-below zero le = refl
  same-below (suc m) le =
      same-one new old m (has-other m (omega arith)) (same-below m (omega arith))

  new-above : (n : ℕ) → stage < n → stages_below n new ≡ stages_below stage old ++ stage ∷ []
  new-above zero less = absurd (omega arith)
  new-above (suc m) less =
      elim (cases_eq m stage) [
        | inl same ↦ (let yes_ : has_stage new m ≡ true = has m ∙ ap (λ (b : Bool). b || has_stage old m) (eq-eqb m stage same) in more-below new m yes_ ∙ (λ i. stages_below (same i) new ++ same i ∷ []) ∙ ap (λ (l : List ℕ). l ++ stage ∷ []) (same-below stage (omega arith)))
        | inr apart ↦ no-more new m (has-other m apart ∙ not-above m (omega arith)) ∙ new-above m (omega arith)
      ]

  old-above : (n : ℕ) → stage ≤ n → stages_below n old ≡ stages_below stage old
  old-above zero le =
      let z : 0 ≡ stage = omega arith in ap (λ i. stages_below i old) z
  old-above (suc m) le =
      elim (cases_eq (suc m) stage) [
        | inl same ↦ ap (λ i. stages_below i old) same
        | inr apart ↦ no-more old m (not-above m (omega arith)) ∙ old-above m (omega arith)
      ]

  pub one-above : stages_of new ≡ stages_of old ++ stage ∷ []
  unfolding stages_of
  one-above =
      new-above 64 lt ∙ ap (λ (l : List ℕ). l ++ stage ∷ []) (sym (old-above 64 (omega arith)))

-- ---- the next stage

shifted-bit : (n from i : ℕ) → bit_at (n / 2 ^ from) i ≡ bit_at n (from + i)
shifted-bit n from i = ap (λ x. x % 2) (shr-shr n from i)

not-one : (n k : ℕ) → bit_at n k ≡ 0 → (bit_at n k == 1) ≡ false
not-one n k e = ap (λ b. b == 1) e

-- no bit is left
pub none-from : (set : StageSet) (from k : ℕ) → set.bits / 2 ^ from ≡ 0 → from ≤ k → has_stage set k ≡ false
unfolding has_stage
none-from set from k e le =
    let at : from + (k - from) ≡ k = omega arith in
    let zero_bit : bit_at set.bits k ≡ 0 = sym (ap (bit_at set.bits) at) ∙ sym (shifted-bit set.bits from (k - from)) ∙ ap (λ n. bit_at n (k - from)) e ∙ bit_at-zero (k - from) in
    ap (λ b. nat_lt k 64 && b) (not-one set.bits k zero_bit) ∙ and_no (nat_lt k 64)
  where
    and_no : (b : Bool) → (b && false) ≡ false
    and_no true = refl
    and_no false = refl

-- the lowest bit that is left
pub next-is : (set : StageSet) (from : ℕ) → set.bits < 2 ^ 64 → set.bits / 2 ^ from < 2 ^ 64 → 0 < set.bits / 2 ^ from → IsNextFrom set from (from + trailing_zeros w64 (set.bits / 2 ^ from))
unfolding has_stage
next-is set from fits fits_rest some =
    let lowest = bit_at-trailing_zeros w64 (set.bits / 2 ^ from) some fits_rest in
    let one : bit_at set.bits (from + trailing_zeros w64 (set.bits / 2 ^ from)) ≡ 1 = sym (shifted-bit set.bits from (trailing_zeros w64 (set.bits / 2 ^ from))) ∙ lowest.1 in
    let low : from + trailing_zeros w64 (set.bits / 2 ^ from) < 64 = bit-low set.bits (from + trailing_zeros w64 (set.bits / 2 ^ from)) fits one in
    record {
      from_on = omega arith;
      within = low;
      has = ap (λ b. b && bit_at set.bits (from + trailing_zeros w64 (set.bits / 2 ^ from)) == 1) (lt-ltb (from + trailing_zeros w64 (set.bits / 2 ^ from)) 64 low) ∙ ap (λ b. b == 1) one;
      none_before = λ k le lt.
          let at : from + (k - from) ≡ k = omega arith in
          let zero_bit : bit_at set.bits k ≡ 0 = sym (ap (bit_at set.bits) at) ∙ sym (shifted-bit set.bits from (k - from)) ∙ (lowest.2 (k - from) (omega arith)) in
          ap (λ b. b && bit_at set.bits k == 1) (lt-ltb k 64 (omega arith)) ∙ not-one set.bits k zero_bit;
    }
  where
    bit-low : (n k : ℕ) → n < 2 ^ 64 → bit_at n k ≡ 1 → k < 64
    bit-low n k fits one =
        elim (cases_lt k 64) [
          | inl lt ↦ lt
          | inr le ↦ (let z : bit_at n k ≡ 0 = bit_at_above n 64 k fits le in absurd (omega (arith, z, one)))
        ]

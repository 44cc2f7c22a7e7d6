-- Labels are a set of numbers: what each word on them says of one number.
use Rattle.std.proofs.Common.{◌≡◌, ◌⊎◌, ℕ, zero, suc, ◌/◌, ◌%◌, ◌^◌, ◌<◌, ◌≤◌, min, max, Bool, true, false, not, ◌&&◌, ◌||◌, if◌then◌else◌, refl, ap, ap₂, sym, ◌∙◌, subst, inl, inr, arith}
use Rattle.std.specs.Prelude.{◌==◌, nat_lt}
use Rattle.std.specs.Int.{bit_at}
use Rattle.std.specs.Int.Bits.{bit_and}
use Rattle.std.proofs.lemmas.Bool.{cases_eq, cases_order, eq-eqb, eqb-true, ne_eqb, lt-ltb, le-ltb, both_ways}
use Rattle.std.proofs.lemmas.Nat.Bits.{bit_at_lowest, bit_at-suc, bit_at-zero, bit_at_and, bit_at_or, bit_at-pow_same, bit_at-pow_other, bit_at-lt, same_from_bits}
use Rattle.ts_packet.specs.Labels.{has_label, joined, labels_below, no_labels, shares_label, with_label}

-- a digit is 1 where one of two is
or_test : (x y : ℕ) → x < 2 → y < 2 → (max x y == 1) ≡ ((x == 1) || (y == 1))
or_test zero zero hx hy = refl
or_test zero (suc zero) hx hy = refl
or_test zero (suc (suc y)) hx hy = absurd (omega arith)
or_test (suc zero) zero hx hy = refl
or_test (suc zero) (suc zero) hx hy = refl
or_test (suc zero) (suc (suc y)) hx hy = absurd (omega arith)
or_test (suc (suc x)) y hx hy = absurd (omega arith)

-- digits with one test are one digit
same_digit : (x y : ℕ) → x < 2 → y < 2 → (x == 1) ≡ (y == 1) → x ≡ y
same_digit zero zero hx hy e = refl
same_digit zero (suc zero) hx hy e = absurd cc
same_digit zero (suc (suc y)) hx hy e = absurd (omega arith)
same_digit (suc zero) zero hx hy e = absurd cc
same_digit (suc zero) (suc zero) hx hy e = refl
same_digit (suc zero) (suc (suc y)) hx hy e = absurd (omega arith)
same_digit (suc (suc x)) y hx hy e = absurd (omega arith)

-- the set of one number
pow_test : (n m : ℕ) → (bit_at (2 ^ n) m == 1) ≡ (m == n)
pow_test n m = go (cases_eq m n)
  where
    go : (m ≡ n) ⊎ (m ≡ n → ⊥) → (bit_at (2 ^ n) m == 1) ≡ (m == n)
    go (inl e) = eq-eqb _ _ (subst (λ (k : ℕ). bit_at (2 ^ n) k ≡ 1) (sym e) (bit_at-pow_same n)) ∙ sym (eq-eqb m n e)
    go (inr ne) = ap (λ (k : ℕ). k == 1) (bit_at-pow_other n m ne) ∙ sym (ne_eqb m n ne)

pub has_label-none : (n : ℕ) → has_label no_labels n ≡ false
has_label-none n = ap (λ (k : ℕ). k == 1) (bit_at-zero n)

pub has_label-joined : (a b n : ℕ) → has_label (joined a b) n ≡ (has_label a n || has_label b n)
has_label-joined a b n =
    ap (λ (k : ℕ). k == 1) (bit_at_or a b n) ∙ or_test (bit_at a n) (bit_at b n) (bit_at-lt a n) (bit_at-lt b n)

pub has_label-more : (labels n m : ℕ) → has_label (with_label labels n) m ≡ (has_label labels m || (m == n))
has_label-more labels n m = has_label-joined labels (2 ^ n) m ∙ ap (λ (t : Bool). has_label labels m || t) (pow_test n m)

or_no : (b : Bool) → (b || false) ≡ b
or_no true = refl
or_no false = refl

-- a test below one more
below_test : (picked : ℕ → Bool) (c n : ℕ) → (t : Bool) → picked c ≡ t
    → (if t then ((nat_lt n c && picked n) || (n == c)) else (nat_lt n c && picked n)) ≡ (nat_lt n (suc c) && picked n)
below_test picked c n t e = go t e (cases_order n c)
  where
    go : (t : Bool) → picked c ≡ t → (n ≡ c) ⊎ ((n < c) ⊎ (c < n))
        → (if t then ((nat_lt n c && picked n) || (n == c)) else (nat_lt n c && picked n)) ≡ (nat_lt n (suc c) && picked n)
    go true e (inl same) =
        let here : picked n ≡ true = ap picked same ∙ e in
        rw (here, le-ltb n c (omega arith), lt-ltb n (suc c) (omega arith), eq-eqb n c same) refl
    go true e (inr (inl lt)) =
        rw (lt-ltb n c lt, lt-ltb n (suc c) (omega arith), ne_eqb n c (λ e. omega (arith, e))) (or_no (picked n))
    go true e (inr (inr gt)) =
        rw (le-ltb n c (omega arith), le-ltb n (suc c) (omega arith), ne_eqb n c (λ e. omega (arith, e))) refl
    go false e (inl same) =
        let here : picked n ≡ false = ap picked same ∙ e in
        rw (here, le-ltb n c (omega arith), lt-ltb n (suc c) (omega arith)) refl
    go false e (inr (inl lt)) = rw (lt-ltb n c lt, lt-ltb n (suc c) (omega arith)) refl
    go false e (inr (inr gt)) = rw (le-ltb n c (omega arith), le-ltb n (suc c) (omega arith)) refl

pub has_label-below : (picked : ℕ → Bool) (count n : ℕ)
    → has_label (labels_below picked count) n ≡ (nat_lt n count && picked n)
has_label-below picked zero n = has_label-none n ∙ ap (λ (t : Bool). t && picked n) (sym (le-ltb n zero (omega arith)))
has_label-below picked (suc c) n = go (picked c) refl (has_label-below picked c n) ∙ below_test picked c n (picked c) refl
  where
    go : (t : Bool) → picked c ≡ t → has_label (labels_below picked c) n ≡ (nat_lt n c && picked n)
        → has_label (if t then with_label (labels_below picked c) c else labels_below picked c) n
        ≡ (if t then ((nat_lt n c && picked n) || (n == c)) else (nat_lt n c && picked n))
    go true e h = has_label-more (labels_below picked c) c n ∙ ap (λ (t : Bool). t || (n == c)) h
    go false e h = h

-- a number above 0 has a digit 1
some_digit : (most n : ℕ) → n ≤ most → 0 < n → (i : ℕ) × (bit_at n i ≡ 1)
some_digit zero n le above = absurd (omega arith)
some_digit (suc most) n le above = go (λ (m : ℕ) (within : m ≤ most) (some : 0 < m). some_digit most m within some) (cases_eq (n % 2) 1)
  where
    go : ((m : ℕ) → m ≤ most → 0 < m → (i : ℕ) × (bit_at m i ≡ 1)) → (n % 2 ≡ 1) ⊎ (n % 2 ≡ 1 → ⊥) → (i : ℕ) × (bit_at n i ≡ 1)
    go half_has (inl odd) = (zero, bit_at_lowest n ∙ odd)
    go half_has (inr even) =
        let half : 0 < n / 2 = omega arith in
        let fewer : n / 2 ≤ most = omega arith in
        let rest : (i : ℕ) × (bit_at (n / 2) i ≡ 1) = half_has (n / 2) fewer half in
        (suc rest.0, bit_at-suc n rest.0 ∙ rest.1)

-- the least of two digits is 1 where both are
and_parts_of : (x y : ℕ) → x < 2 → y < 2 → min x y ≡ 1 → (x ≡ 1) × (y ≡ 1)
and_parts_of x y hx hy e = (omega arith, omega arith)

pub shared-some : (a b : ℕ) → shares_label a b ≡ true → (n : ℕ) × (has_label a n ≡ true) × (has_label b n ≡ true)
shared-some a b e = go (cases_eq (bit_and a b) 0)
  where
    go : (bit_and a b ≡ 0) ⊎ (bit_and a b ≡ 0 → ⊥) → (n : ℕ) × (has_label a n ≡ true) × (has_label b n ≡ true)
    go (inl zero_both) = absurd (both_ways _ (ap not (eq-eqb _ _ zero_both)) e)
    go (inr ne) =
        let above : 0 < bit_and a b = omega (arith, ne) in
        let digit : (i : ℕ) × (bit_at (bit_and a b) i ≡ 1) = some_digit (bit_and a b) (bit_and a b) (omega arith) above in
        let parts = and_parts_of (bit_at a digit.0) (bit_at b digit.0) (bit_at-lt a digit.0) (bit_at-lt b digit.0) (sym (bit_at_and a b digit.0) ∙ digit.1) in
        (digit.0, eq-eqb _ _ parts.0, eq-eqb _ _ parts.1)

pub shared-from : (a b n : ℕ) → has_label a n ≡ true → has_label b n ≡ true → shares_label a b ≡ true
shared-from a b n in_a in_b = ap not (ne_eqb (bit_and a b) 0 none)
  where
    none : bit_and a b ≡ 0 → ⊥
    none e =
        let one : bit_at a n ≡ 1 = eqb-true _ _ in_a in
        let other : bit_at b n ≡ 1 = eqb-true _ _ in_b in
        let at_and : bit_at (bit_and a b) n ≡ min (bit_at a n) (bit_at b n) = bit_at_and a b n in
        let at_zero : bit_at (bit_and a b) n ≡ 0 = ap (λ (k : ℕ). bit_at k n) e ∙ bit_at-zero n in
        let both : min (bit_at a n) (bit_at b n) ≡ 1 = ap₂ min one other in
        omega arith

pub same-labels : (a b : ℕ) → ((n : ℕ) → has_label a n ≡ has_label b n) → a ≡ b
same-labels a b same = same_from_bits a b (λ i. same_digit (bit_at a i) (bit_at b i) (bit_at-lt a i) (bit_at-lt b i) (same i))

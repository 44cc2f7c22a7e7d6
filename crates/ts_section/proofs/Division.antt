-- Long division modulo 2, step by step: it is linear, and can be cut in two.
use Rattle.std.proofs.Common.{◌≡◌, ℕ, ◌+◌, ◌*◌, ◌/◌, ◌%◌, ◌^◌, ◌<◌, refl, sym, ap, ◌∙◌, arith, suc, zero, add-zero, zero-add, zero-mul, suc-add, pow-suc, mul_assoc}
use Rattle.std.specs.Prelude.{bit_xor}
use Rattle.std.specs.Int.{bit_at}
use Rattle.std.specs.Int.Bits.{xor_assoc, xor_self, xor_zero_l, xor_zero_r}
use Rattle.std.proofs.lemmas.Nat.{pow_pos, pow-add, shl-shr, shr-shr, xor_comm, xor_shr, xor_block, shr_split, mod_below, div_below}
use Rattle.std.proofs.lemmas.Nat.Bits.{bit_at_xor, bit_at_above, bit_at-lt}
use Rattle.ts_section.specs.Crc.{polynomial, remainder}

-- one step of the division
abbrev pub reduced : ℕ → ℕ → ℕ
reduced places row = bit_xor row (bit_at row (places + 32) * (polynomial * 2 ^ places))

pub remainder-zero : (row : ℕ) → remainder 0 row ≡ row
unfolding remainder
remainder-zero row = refl

pub remainder-suc : (places row : ℕ) → remainder (suc places) row ≡ remainder places (reduced places row)
unfolding remainder
remainder-suc places row = refl

pub xor_four : (a b c d : ℕ) → bit_xor (bit_xor a b) (bit_xor c d) ≡ bit_xor (bit_xor a c) (bit_xor b d)
xor_four a b c d =
    xor_assoc a b (bit_xor c d)
    ∙ ap (bit_xor a) (sym (xor_assoc b c d) ∙ ap (λ n. bit_xor n d) (xor_comm b c) ∙ xor_assoc c b d)
    ∙ sym (xor_assoc a c (bit_xor b d))

-- the sum modulo 2 of two bits, each times the same number
bits_times : (a b m : ℕ) → a < 2 → b < 2 → (a + b) % 2 * m ≡ bit_xor (a * m) (b * m)
bits_times zero zero m p q = rw (zero-mul m) (sym (xor_zero_l 0))
bits_times zero (suc zero) m p q = rw (zero-mul m, xor_zero_l (1 * m)) refl
bits_times (suc zero) zero m p q = rw (zero-mul m, xor_zero_r (1 * m)) refl
bits_times (suc zero) (suc zero) m p q = rw (xor_self (1 * m)) (zero-mul m)
bits_times (suc (suc a)) b m p q = absurd (omega arith)
bits_times zero (suc (suc b)) m p q = absurd (omega arith)
bits_times (suc zero) (suc (suc b)) m p q = absurd (omega arith)

reduced-xor : (places x y : ℕ) → reduced places (bit_xor x y) ≡ bit_xor (reduced places x) (reduced places y)
reduced-xor places x y =
    ap (λ b. bit_xor (bit_xor x y) (b * (polynomial * 2 ^ places))) (bit_at_xor x y (places + 32))
    ∙ ap (bit_xor (bit_xor x y)) (bits_times (bit_at x (places + 32)) (bit_at y (places + 32)) (polynomial * 2 ^ places) (bit_at-lt x (places + 32)) (bit_at-lt y (places + 32)))
    ∙ xor_four x y (bit_at x (places + 32) * (polynomial * 2 ^ places)) (bit_at y (places + 32) * (polynomial * 2 ^ places))

-- the remainder of a sum is the sum of the remainders
pub remainder-xor : (places x y : ℕ) → remainder places (bit_xor x y) ≡ bit_xor (remainder places x) (remainder places y)
remainder-xor zero x y = remainder-zero (bit_xor x y) ∙ sym (ap (λ n. bit_xor n (remainder 0 y)) (remainder-zero x) ∙ ap (bit_xor x) (remainder-zero y))
remainder-xor (suc places) x y =
    remainder-suc places (bit_xor x y) ∙ ap (remainder places) (reduced-xor places x y) ∙ remainder-xor places (reduced places x) (reduced places y)
    ∙ sym (ap (λ n. bit_xor n (remainder (suc places) y)) (remainder-suc places x) ∙ ap (bit_xor (remainder places (reduced places x))) (remainder-suc places y))

-- a step at a place where the row has no one
reduced-none : (places row : ℕ) → bit_at row (places + 32) ≡ 0 → reduced places row ≡ row
reduced-none places row none =
    ap (λ b. bit_xor row (b * (polynomial * 2 ^ places))) none ∙ ap (bit_xor row) (zero-mul (polynomial * 2 ^ places)) ∙ xor_zero_r row

-- leading zeros change nothing
pub remainder-front : (more places row : ℕ) → row < 2 ^ (places + 32) → remainder (more + places) row ≡ remainder places row
remainder-front zero places row small = ap (λ n. remainder n row) (zero-add places)
remainder-front (suc more) places row small =
    ap (λ n. remainder n row) (suc-add more places) ∙ remainder-suc (more + places) row
    ∙ ap (remainder (more + places)) (reduced-none (more + places) row (bit_at_above row (places + 32) (more + places + 32) small (omega arith)))
    ∙ remainder-front more places row small

-- a number below the polynomial is its own remainder
pub remainder-small : (places row : ℕ) → row < 2 ^ 32 → remainder places row ≡ row
remainder-small places row small =
    ap (λ n. remainder n row) (sym (add-zero places)) ∙ remainder-front places 0 row small ∙ remainder-zero row

below_of_zero : (n k : ℕ) → n / 2 ^ k ≡ 0 → n < 2 ^ k
below_of_zero n k none =
    let front : n / 2 ^ k * 2 ^ k ≡ 0 = ap (λ q. q * 2 ^ k) none ∙ zero-mul (2 ^ k) in
    omega (arith, shr_split n k, mod_below n (2 ^ k) (pow_pos k))

-- the highest place of the polynomial, moved and times a bit
polynomial-top : (places b : ℕ) → b < 2 → b * (polynomial * 2 ^ places) / 2 ^ (places + 32) ≡ b
polynomial-top places b small =
    ap (λ n. n / 2 ^ (places + 32)) (sym (mul_assoc b polynomial (2 ^ places)))
    ∙ sym (shr-shr (b * polynomial * 2 ^ places) places 32)
    ∙ ap (λ n. n / 2 ^ 32) (shl-shr (b * polynomial) places)
    ∙ omega arith

-- a step leaves one place less
reduced-lt : (places row : ℕ) → row < 2 ^ (suc places + 32) → reduced places row < 2 ^ (places + 32)
reduced-lt places row small =
    let high : suc places + 32 ≡ suc (places + 32) = omega arith in
    let twice : row < 2 * 2 ^ (places + 32) = omega (arith, ap (λ n. 2 ^ n) high, pow-suc 2 (places + 32)) in
    let top : row / 2 ^ (places + 32) < 2 = div_below row (2 ^ (places + 32)) 2 (pow_pos (places + 32)) twice in
    let bit : bit_at row (places + 32) ≡ row / 2 ^ (places + 32) = omega arith in
    below_of_zero (reduced places row) (places + 32)
    (xor_shr row (bit_at row (places + 32) * (polynomial * 2 ^ places)) (places + 32)
    ∙ ap (bit_xor (row / 2 ^ (places + 32))) (polynomial-top places (bit_at row (places + 32)) (bit_at-lt row (places + 32)) ∙ bit)
    ∙ xor_self (row / 2 ^ (places + 32)))

pub remainder-lt : (places row : ℕ) → row < 2 ^ (places + 32) → remainder places row < 2 ^ 32
remainder-lt zero row small = rw (remainder-zero row) small
remainder-lt (suc places) row small = rw (remainder-suc places row) (remainder-lt places (reduced places row) (reduced-lt places row small))

-- zeros after both sides of a sum
pub xor-shift : (k a b : ℕ) → bit_xor (a * 2 ^ k) (b * 2 ^ k) ≡ bit_xor a b * 2 ^ k
xor-shift k a b = simp add-zero at (xor_block k a b 0 0 (pow_pos k) (pow_pos k))

bit_at-shift : (row behind i j : ℕ) → j ≡ behind + i → bit_at (row * 2 ^ behind) j ≡ bit_at row i
bit_at-shift row behind i j same =
    ap (λ n. row * 2 ^ behind / 2 ^ n % 2) same
    ∙ ap (λ n. n % 2) (sym (shr-shr (row * 2 ^ behind) behind i) ∙ ap (λ n. n / 2 ^ i) (shl-shr row behind))

-- a step on a row with zeros after
reduced-shift : (places behind row : ℕ) → reduced (places + behind) (row * 2 ^ behind) ≡ reduced places row * 2 ^ behind
reduced-shift places behind row =
    let bit : bit_at (row * 2 ^ behind) (places + behind + 32) ≡ bit_at row (places + 32) =
    bit_at-shift row behind (places + 32) (places + behind + 32) (omega arith) in
    let power : polynomial * 2 ^ (places + behind) ≡ polynomial * 2 ^ places * 2 ^ behind =
    ap (λ n. polynomial * n) (pow-add 2 places behind) ∙ sym (mul_assoc polynomial (2 ^ places) (2 ^ behind)) in
    ap (λ b. bit_xor (row * 2 ^ behind) (b * (polynomial * 2 ^ (places + behind)))) bit
    ∙ ap (λ n. bit_xor (row * 2 ^ behind) (bit_at row (places + 32) * n)) power
    ∙ ap (bit_xor (row * 2 ^ behind)) (sym (mul_assoc (bit_at row (places + 32)) (polynomial * 2 ^ places) (2 ^ behind)))
    ∙ xor-shift behind row (bit_at row (places + 32) * (polynomial * 2 ^ places))

-- the first places of a row with zeros after
pub remainder-shift : (places behind row : ℕ) → remainder (places + behind) (row * 2 ^ behind) ≡ remainder behind (remainder places row * 2 ^ behind)
remainder-shift zero behind row = ap (λ n. remainder n (row * 2 ^ behind)) (zero-add behind) ∙ ap (λ n. remainder behind (n * 2 ^ behind)) (sym (remainder-zero row))
remainder-shift (suc places) behind row =
    ap (λ n. remainder n (row * 2 ^ behind)) (suc-add places behind) ∙ remainder-suc (places + behind) (row * 2 ^ behind)
    ∙ ap (remainder (places + behind)) (reduced-shift places behind row)
    ∙ remainder-shift places behind (reduced places row)
    ∙ ap (λ n. remainder behind (n * 2 ^ behind)) (sym (remainder-suc places row))

-- The CRC byte by byte, and the CRC of a row that ends in its own CRC.
use Rattle.std.proofs.Common.{◌≡◌, ℕ, ◌+◌, ◌-◌, ◌*◌, ◌/◌, ◌%◌, ◌^◌, ◌<◌, List, [], ◌∷◌, ◌++◌, length, refl, sym, ap, ◌∙◌, arith, suc, zero, add-zero, zero-add, zero-mul, pow-suc, mul_assoc, length-append}
use Rattle.std.specs.Prelude.{bit_xor}
use Rattle.std.specs.Int.{bit_at}
use Rattle.std.specs.Int.Bits.{xor_assoc, xor_self, xor_zero_l, xor_zero_r}
use Rattle.std.proofs.Math.Nat.{mul_comm, add_comm}
use Rattle.std.proofs.lemmas.Nat.{pow_pos, pow-add, xor_comm, xor_lt, xor_mod, xor_block, shl_below}
use Rattle.std.proofs.lemmas.Nat.Bits.{bit_at-lt}
use Rattle.ts_bit_rows.specs.BitRow.{field}
use Rattle.ts_bit_rows.proofs.Fields.{field-below, field-split, field-whole_byte}
use Rattle.ts_bit_rows.proofs.RowParts.{field-append_left, field-append_right}
use Rattle.ts_section.specs.Crc.{polynomial, remainder, divided_row, crc_of}
use Rattle.ts_section.proofs.Division.{reduced, remainder-zero, remainder-suc, remainder-xor, remainder-front, remainder-small, remainder-lt, remainder-shift, xor-shift}

divided_row-is : (a : List ℕ) → divided_row a ≡ bit_xor (field a 0 (8 * length a) * 2 ^ 32) ((2 ^ 32 - 1) * 2 ^ (8 * length a))
unfolding divided_row
divided_row-is a = refl

crc_of-is : (a : List ℕ) → crc_of a ≡ remainder (8 * length a) (divided_row a)
unfolding crc_of
crc_of-is a = refl

divided_row-lt : (a : List ℕ) → divided_row a < 2 ^ (8 * length a + 32)
divided_row-lt a =
    let bits : field a 0 (8 * length a) * 2 ^ 32 < 2 ^ (8 * length a + 32) = shl_below (field a 0 (8 * length a)) (8 * length a) 32 (field-below a 0 (8 * length a)) in
    let ones : (2 ^ 32 - 1) * 2 ^ (8 * length a) < 2 ^ (8 * length a + 32) =
    rw (add_comm (8 * length a) 32) (shl_below (2 ^ 32 - 1) 32 (8 * length a) (omega arith)) in
    rw (divided_row-is a) (xor_lt (8 * length a + 32) (field a 0 (8 * length a) * 2 ^ 32) ((2 ^ 32 - 1) * 2 ^ (8 * length a)) bits ones)

pub crc_of-lt : (a : List ℕ) → crc_of a < 2 ^ 32
crc_of-lt a = rw (crc_of-is a) (remainder-lt (8 * length a) (divided_row a) (divided_row-lt a))

xor_last : (a b c : ℕ) → bit_xor (bit_xor a b) c ≡ bit_xor (bit_xor a c) b
xor_last a b c = xor_assoc a b c ∙ ap (bit_xor a) (xor_comm b c) ∙ sym (xor_assoc a c b)

-- a number cut in two is the sum of its parts
cat-xor : (k a b : ℕ) → b < 2 ^ k → a * 2 ^ k + b ≡ bit_xor (a * 2 ^ k) b
cat-xor k a b small =
    let e : bit_xor (a * 2 ^ k + 0) (0 * 2 ^ k + b) ≡ bit_xor a 0 * 2 ^ k + bit_xor 0 b = xor_block k a 0 0 b (pow_pos k) small in
    sym (simp (add-zero, zero-mul, zero-add, xor_zero_r, xor_zero_l) at e)

-- the bits of two rows one after another
field-append : (a b : List ℕ) → field (a ++ b) 0 (8 * length a + 8 * length b) ≡ bit_xor (field a 0 (8 * length a) * 2 ^ (8 * length b)) (field b 0 (8 * length b))
field-append a b =
    field-split (a ++ b) 0 (8 * length a) (8 * length b)
    ∙ ap (λ n. n * 2 ^ (8 * length b) + field (a ++ b) (0 + 8 * length a) (8 * length b)) (field-append_left a b 0 (8 * length a) (omega arith))
    ∙ ap (λ n. field a 0 (8 * length a) * 2 ^ (8 * length b) + field (a ++ b) n (8 * length b)) (zero-add (8 * length a) ∙ sym (add-zero (8 * length a)))
    ∙ ap (λ n. field a 0 (8 * length a) * 2 ^ (8 * length b) + n) (field-append_right a b 0 (8 * length b))
    ∙ cat-xor (8 * length b) (field a 0 (8 * length a)) (field b 0 (8 * length b)) (field-below b 0 (8 * length b))

-- factors in another order
turned : (a b c : ℕ) → a * b * c ≡ a * c * b
turned a b c = mul_assoc a b c ∙ ap (λ n. a * n) (mul_comm b c) ∙ sym (mul_assoc a c b)

divided_row-append : (a b : List ℕ) → divided_row (a ++ b) ≡ bit_xor (divided_row a * 2 ^ (8 * length b)) (field b 0 (8 * length b) * 2 ^ 32)
divided_row-append a b =
    let both : 8 * length (a ++ b) ≡ 8 * length a + 8 * length b = omega (arith, length-append a b) in
    divided_row-is (a ++ b)
    ∙ ap (λ n. bit_xor (field (a ++ b) 0 n * 2 ^ 32) ((2 ^ 32 - 1) * 2 ^ n)) both
    ∙ ap (λ n. bit_xor (n * 2 ^ 32) ((2 ^ 32 - 1) * 2 ^ (8 * length a + 8 * length b))) (field-append a b)
    ∙ ap (λ n. bit_xor n ((2 ^ 32 - 1) * 2 ^ (8 * length a + 8 * length b)))
    (sym (xor-shift 32 (field a 0 (8 * length a) * 2 ^ (8 * length b)) (field b 0 (8 * length b))))
    ∙ ap (λ n. bit_xor (bit_xor n (field b 0 (8 * length b) * 2 ^ 32)) ((2 ^ 32 - 1) * 2 ^ (8 * length a + 8 * length b)))
    (turned (field a 0 (8 * length a)) (2 ^ (8 * length b)) (2 ^ 32))
    ∙ ap (λ n. bit_xor (bit_xor (field a 0 (8 * length a) * 2 ^ 32 * 2 ^ (8 * length b)) (field b 0 (8 * length b) * 2 ^ 32)) n)
    (ap (λ n. (2 ^ 32 - 1) * n) (pow-add 2 (8 * length a) (8 * length b)) ∙ sym (mul_assoc (2 ^ 32 - 1) (2 ^ (8 * length a)) (2 ^ (8 * length b))))
    ∙ xor_last (field a 0 (8 * length a) * 2 ^ 32 * 2 ^ (8 * length b)) (field b 0 (8 * length b) * 2 ^ 32) ((2 ^ 32 - 1) * 2 ^ (8 * length a) * 2 ^ (8 * length b))
    ∙ ap (λ n. bit_xor n (field b 0 (8 * length b) * 2 ^ 32))
    (xor-shift (8 * length b) (field a 0 (8 * length a) * 2 ^ 32) ((2 ^ 32 - 1) * 2 ^ (8 * length a)))
    ∙ ap (λ n. bit_xor (n * 2 ^ (8 * length b)) (field b 0 (8 * length b) * 2 ^ 32)) (sym (divided_row-is a))

-- the CRC continues from the CRC of the bytes before
pub crc_of-append : (a b : List ℕ) → crc_of (a ++ b) ≡ remainder (8 * length b) (bit_xor (crc_of a * 2 ^ (8 * length b)) (field b 0 (8 * length b) * 2 ^ 32))
crc_of-append a b =
    let both : 8 * length (a ++ b) ≡ 8 * length a + 8 * length b = omega (arith, length-append a b) in
    let small : field b 0 (8 * length b) * 2 ^ 32 < 2 ^ (8 * length b + 32) = shl_below (field b 0 (8 * length b)) (8 * length b) 32 (field-below b 0 (8 * length b)) in
    crc_of-is (a ++ b)
    ∙ ap (λ n. remainder n (divided_row (a ++ b))) both
    ∙ ap (remainder (8 * length a + 8 * length b)) (divided_row-append a b)
    ∙ remainder-xor (8 * length a + 8 * length b) (divided_row a * 2 ^ (8 * length b)) (field b 0 (8 * length b) * 2 ^ 32)
    ∙ ap (λ n. bit_xor n (remainder (8 * length a + 8 * length b) (field b 0 (8 * length b) * 2 ^ 32)))
    (remainder-shift (8 * length a) (8 * length b) (divided_row a) ∙ ap (λ n. remainder (8 * length b) (n * 2 ^ (8 * length b))) (sym (crc_of-is a)))
    ∙ ap (bit_xor (remainder (8 * length b) (crc_of a * 2 ^ (8 * length b))))
    (remainder-front (8 * length a) (8 * length b) (field b 0 (8 * length b) * 2 ^ 32) small)
    ∙ sym (remainder-xor (8 * length b) (crc_of a * 2 ^ (8 * length b)) (field b 0 (8 * length b) * 2 ^ 32))

-- of 32 bits and a byte, what the division of the byte's eight places sees
byte_step : (c x : ℕ) → c < 2 ^ 32 → x < 256 → bit_xor (c * 2 ^ 8) (x * 2 ^ 32) ≡ bit_xor (bit_xor (c / 2 ^ 24) x * 2 ^ 32) (c % 2 ^ 24 * 2 ^ 8)
byte_step c x small byte =
    let parts : c * 2 ^ 8 ≡ c / 2 ^ 24 * 2 ^ 32 + c % 2 ^ 24 * 2 ^ 8 = omega arith in
    let low : c % 2 ^ 24 * 2 ^ 8 < 2 ^ 32 = omega arith in
    ap (λ n. bit_xor n (x * 2 ^ 32)) parts
    ∙ ap (bit_xor (c / 2 ^ 24 * 2 ^ 32 + c % 2 ^ 24 * 2 ^ 8)) (sym (add-zero (x * 2 ^ 32)))
    ∙ xor_block 32 (c / 2 ^ 24) x (c % 2 ^ 24 * 2 ^ 8) 0 low (pow_pos 32)
    ∙ ap (λ n. bit_xor (c / 2 ^ 24) x * 2 ^ 32 + n) (xor_zero_r (c % 2 ^ 24 * 2 ^ 8))
    ∙ cat-xor 32 (bit_xor (c / 2 ^ 24) x) (c % 2 ^ 24 * 2 ^ 8) low

-- the CRC with one byte more, by the table's entry
pub crc_of-byte : (a : List ℕ) (x : ℕ) → x < 256 → crc_of (a ++ x ∷ []) ≡ bit_xor (crc_of a * 256 % 2 ^ 32) (remainder 8 (bit_xor (crc_of a / 2 ^ 24) x * 2 ^ 32))
crc_of-byte a x byte =
    let moved : crc_of a % 2 ^ 24 * 2 ^ 8 ≡ crc_of a * 256 % 2 ^ 32 = omega arith in
    let low : crc_of a % 2 ^ 24 * 2 ^ 8 < 2 ^ 32 = omega arith in
    crc_of-append a (x ∷ [])
    ∙ ap (λ n. remainder 8 (bit_xor (crc_of a * 2 ^ 8) (n * 2 ^ 32))) (field-whole_byte (x ∷ []) 0 byte)
    ∙ ap (remainder 8) (byte_step (crc_of a) x (crc_of-lt a) byte)
    ∙ remainder-xor 8 (bit_xor (crc_of a / 2 ^ 24) x * 2 ^ 32) (crc_of a % 2 ^ 24 * 2 ^ 8)
    ∙ ap (bit_xor (remainder 8 (bit_xor (crc_of a / 2 ^ 24) x * 2 ^ 32))) (remainder-small 8 (crc_of a % 2 ^ 24 * 2 ^ 8) low ∙ moved)
    ∙ xor_comm (remainder 8 (bit_xor (crc_of a / 2 ^ 24) x * 2 ^ 32)) (crc_of a * 256 % 2 ^ 32)

-- the polynomial ends in a one, so no step ends in zeros but that of zeros
step_none : (d b : ℕ) → b < 2 → bit_xor (d * 2) (b * (polynomial * 2 ^ 0)) ≡ 0 → d ≡ 0
step_none d zero small none =
    let twice : d * 2 ≡ 0 = sym (xor_zero_r (d * 2)) ∙ none in
    omega arith
step_none d (suc zero) small none =
    let odd : bit_xor (d * 2 % 2 ^ 1) (polynomial % 2 ^ 1) ≡ 0 = sym (xor_mod (d * 2) polynomial 1) ∙ ap (λ n. n % 2) none in
    let even : d * 2 % 2 ^ 1 ≡ 0 = omega arith in
    let one : bit_xor 0 1 ≡ 0 = ap (λ n. bit_xor n 1) (sym even) ∙ odd in
    absurd (omega (arith, one))
step_none d (suc (suc b)) small none = absurd (omega arith)

remainder-none : (places d : ℕ) → d < 2 ^ 32 → remainder places (d * 2 ^ places) ≡ 0 → d ≡ 0
remainder-none zero d small none =
    let once : d * 2 ^ 0 ≡ d = omega arith in
    sym once ∙ sym (remainder-zero (d * 2 ^ 0)) ∙ none
remainder-none (suc places) d small none =
    let row : d * 2 ^ suc places ≡ d * 2 * 2 ^ places = ap (λ n. d * n) (pow-suc 2 places) ∙ sym (mul_assoc d (2 ^ places) 2) ∙ turned d (2 ^ places) 2 in
    let next : suc places ≡ 1 + places = omega arith in
    let wide : d * 2 < 2 ^ (1 + 32) = omega arith in
    let rest : remainder places (remainder 1 (d * 2) * 2 ^ places) ≡ 0 =
    sym (remainder-shift 1 places (d * 2)) ∙ ap (λ n. remainder n (d * 2 * 2 ^ places)) (sym next) ∙ ap (remainder (suc places)) (sym row) ∙ none in
    let first : remainder 1 (d * 2) ≡ 0 = remainder-none places (remainder 1 (d * 2)) (remainder-lt 1 (d * 2) wide) rest in
    step_none d (bit_at (d * 2) 32) (bit_at-lt (d * 2) 32) (sym (remainder-suc 0 (d * 2) ∙ remainder-zero (reduced 0 (d * 2))) ∙ first)

same_from_xor : (a b : ℕ) → bit_xor a b ≡ 0 → a ≡ b
same_from_xor a b none =
    sym (xor_zero_r a) ∙ ap (bit_xor a) (sym (xor_self b)) ∙ sym (xor_assoc a b b) ∙ ap (λ n. bit_xor n b) none ∙ xor_zero_l b

crc_of-four : (a b : List ℕ) → length b ≡ 4 → crc_of (a ++ b) ≡ remainder 32 (bit_xor (crc_of a) (field b 0 32) * 2 ^ 32)
crc_of-four a b four =
    crc_of-append a b
    ∙ ap (λ n. remainder (8 * n) (bit_xor (crc_of a * 2 ^ (8 * n)) (field b 0 (8 * n) * 2 ^ 32))) four
    ∙ ap (remainder 32) (xor-shift 32 (crc_of a) (field b 0 32))

-- bytes that end in their own CRC divide to 0
pub crc_of-own : (a b : List ℕ) → length b ≡ 4 → field b 0 32 ≡ crc_of a → crc_of (a ++ b) ≡ 0
crc_of-own a b four same =
    crc_of-four a b four
    ∙ ap (λ n. remainder 32 (n * 2 ^ 32)) (ap (bit_xor (crc_of a)) same ∙ xor_self (crc_of a))
    ∙ remainder-small 32 (0 * 2 ^ 32) (omega arith)

-- and only such bytes do
pub crc_of-zero : (a b : List ℕ) → length b ≡ 4 → crc_of (a ++ b) ≡ 0 → field b 0 32 ≡ crc_of a
crc_of-zero a b four none =
    sym (same_from_xor (crc_of a) (field b 0 32)
    (remainder-none 32 (bit_xor (crc_of a) (field b 0 32)) (xor_lt 32 (crc_of a) (field b 0 32) (crc_of-lt a) (field-below b 0 32))
    (sym (crc_of-four a b four) ∙ none)))

-- Fields cut in two, fields inside one byte, and writes to them.
use Rattle.std.proofs.Common.{◌≡◌, ℕ, zero, suc, ◌+◌, ◌-◌, ◌*◌, ◌/◌, ◌%◌, ◌^◌, ◌<◌, ◌≤◌, List, length, set, slice_index, refl, sym, ◌∙◌, ap, arith, inl, inr, add-zero, add-suc, length-set, get_or-set_same, get_or-set_other}
use Rattle.std.proofs.Math.Nat.{pow-suc}
use Rattle.std.proofs.lemmas.Nat.{shr-shr, mod-pow-add, shr_split, shr_high, mod_low}
use Rattle.std.proofs.lemmas.Nat.Bits.{bit_at_cat_low}
use Rattle.std.proofs.lemmas.Bool.{cases_eq}
use Rattle.ts_bit_rows.specs.BitRow.{bit_of, field, SetsField}

-- a field of no bits, and one of one bit more
pub field-zero : (row : List ℕ) (at : ℕ) → field row at 0 ≡ 0
unfolding field
field-zero row at = refl

pub field-suc : (row : List ℕ) (at n : ℕ) → field row at (suc n) ≡ 2 * field row at n + bit_of row (at + n)
unfolding field
field-suc row at n = refl

-- a bit by its byte and its place there
pub bit_of-in_byte : (row : List ℕ) (k r : ℕ) → r < 8 → bit_of row (8 * k + r) ≡ slice_index row k / 2 ^ (7 - r) % 2
unfolding bit_of
bit_of-in_byte row k r h =
    let byte : (8 * k + r) / 8 ≡ k = omega arith in
    let place : (8 * k + r) % 8 ≡ r = omega arith in
    rw (byte, place) refl

-- a field is its first part, followed by the rest
pub field-split : (row : List ℕ) (at m n : ℕ) → field row at (m + n) ≡ field row at m * 2 ^ n + field row (at + m) n
unfolding field
field-split row at m zero = rw add-zero (omega arith)
field-split row at m (suc n) =
    let ih = field-split row at m n in
    let last : bit_of row (at + (m + n)) ≡ bit_of row (at + m + n) = ap (bit_of row) (omega arith) in
    rw (add-suc, pow-suc) (omega arith)

-- a number's low digits, one more of them
low_digits_more : (x n : ℕ) → x % 2 ^ suc n ≡ 2 * (x / 2 % 2 ^ n) + x % 2
low_digits_more x n =
    let e : suc n ≡ n + 1 = omega arith in
    let more : x % 2 ^ (n + 1) ≡ x / 2 % 2 ^ n * 2 + x % 2 = mod-pow-add x n 1 in
    rw e (omega arith)

-- a field inside one byte
pub field-in_byte : (row : List ℕ) (k j n : ℕ) → j + n ≤ 8 → field row (8 * k + j) n ≡ slice_index row k / 2 ^ (8 - (j + n)) % 2 ^ n
unfolding field
field-in_byte row k j zero h = omega arith
field-in_byte row k j (suc n) h =
    let b = slice_index row k in
    let ih = field-in_byte row k j n (omega arith) in
    let place : 8 * k + j + n ≡ 8 * k + (j + n) = omega arith in
    let last : bit_of row (8 * k + j + n) ≡ b / 2 ^ (7 - (j + n)) % 2 = ap (bit_of row) place ∙ bit_of-in_byte row k (j + n) (omega arith) in
    let up : 7 - (j + n) + 1 ≡ 8 - (j + n) = omega arith in
    let half : b / 2 ^ (7 - (j + n)) / 2 ≡ b / 2 ^ (8 - (j + n)) = shr-shr b (7 - (j + n)) 1 ∙ ap (λ e. b / 2 ^ e) up in
    let here : 8 - (j + suc n) ≡ 7 - (j + n) = omega arith in
    let digits : b / 2 ^ (7 - (j + n)) % 2 ^ suc n ≡ 2 * (b / 2 ^ (7 - (j + n)) / 2 % 2 ^ n) + b / 2 ^ (7 - (j + n)) % 2 = low_digits_more (b / 2 ^ (7 - (j + n))) n in
    let counted = rw half at digits in
    rw here (omega arith)

-- a field of n bits is below 2 ^ n
pub field-below : (row : List ℕ) (at n : ℕ) → field row at n < 2 ^ n
unfolding field bit_of
field-below row at zero = omega arith
field-below row at (suc n) =
    let ih = field-below row at n in
    let bit : slice_index row ((at + n) / 8) / 2 ^ (7 - (at + n) % 8) % 2 < 2 = omega arith in
    rw pow-suc (omega arith)

-- the middle of a field
pub field-part : (row : List ℕ) (at a b c : ℕ) → field row at (a + b + c) / 2 ^ c % 2 ^ b ≡ field row (at + a) b
field-part row at a b c =
    rw (field-split row at (a + b) c, shr_high (field row at (a + b)) c (field row (at + (a + b)) c) (field-below _ _ _), field-split row at a b)
    (mod_low (field row at a) b (field row (at + a) b) (field-below _ _ _))

-- rows that agree on the bits of a field, each from a place of its own on, agree on the field
pub field-moved : (row other : List ℕ) (at shift n : ℕ) → ((i : ℕ) → i < n → bit_of row (at + i) ≡ bit_of other (shift + i)) → field row at n ≡ field other shift n
field-moved row other at shift zero same = field-zero row at ∙ sym (field-zero other shift)
field-moved row other at shift (suc n) same =
    rw (field-suc row at n, field-suc other shift n, field-moved row other at shift n (λ i h. same i (omega arith)), same n (omega arith)) refl

-- two rows with the same bits there have the same field there
pub field-same : (old new : List ℕ) (at n : ℕ) → ((i : ℕ) → at ≤ i → i < at + n → bit_of new i ≡ bit_of old i) → field new at n ≡ field old at n
field-same old new at n h = field-moved new old at at n (λ i inside. h (at + i) (omega arith) (omega arith))

-- to set a field and then the one after it is to set both as one
pub SetsField-join : (a b c : List ℕ) (at m n u w : ℕ) → SetsField a b at m u → SetsField b c (at + m) n w → SetsField a c at (m + n) (u * 2 ^ n + w)
SetsField-join a b c at m n u w first second =
    let kept : field c at m ≡ field b at m = field-same b c at m (λ i low high. second.before i high) in
    let split = field-split c at m n in
    record {
      same_length = second.same_length ∙ first.same_length;
      reads_back = split ∙ (rw (kept, first.reads_back, second.reads_back) refl);
      before = λ i h. second.before i (omega arith) ∙ first.before i h;
      after = λ i h. second.after i (omega arith) ∙ first.after i (omega arith);
    }

-- a bit of a byte below a place is a bit of its low digits
low_bit : (x m p : ℕ) → p < m → x / 2 ^ p % 2 ≡ x % 2 ^ m / 2 ^ p % 2
low_bit x m p h = let e = bit_at_cat_low (x / 2 ^ m) m (x % 2 ^ m) p h in rw shr_split at e

-- a bit of a byte from a place on is a bit of its high digits
high_bit : (x m p : ℕ) → m ≤ p → x / 2 ^ p % 2 ≡ x / 2 ^ m / 2 ^ (p - m) % 2
high_bit x m p h =
    let e : m + (p - m) ≡ p = omega arith in
    ap (λ y. y % 2) (sym (shr-shr x m (p - m) ∙ ap (λ q. x / 2 ^ q) e))

-- a write to a byte keeps each bit outside it, and each bit that the old and the new byte have alike
kept_bit : (row : List ℕ) (k new i : ℕ) → k < length row
    → ((i / 8 ≡ k) → new / 2 ^ (7 - i % 8) % 2 ≡ slice_index row k / 2 ^ (7 - i % 8) % 2)
    → bit_of (set row k new) i ≡ bit_of row i
unfolding bit_of
kept_bit row k new i within alike = elim (cases_eq (i / 8) k) [
  | inl e ↦ rw (e, get_or-set_same) (alike e)
  | inr ne ↦ ap (λ b. b / 2 ^ (7 - i % 8) % 2) (get_or-set_other row k (i / 8) new 0 ne)
]

-- a byte that has the value at a field's place, and its other digits as before, sets the field
pub SetsField-in_byte : (row : List ℕ) (k j n new value : ℕ) → k < length row → j + n ≤ 8
    → new / 2 ^ (8 - j) ≡ slice_index row k / 2 ^ (8 - j)
    → new / 2 ^ (8 - (j + n)) % 2 ^ n ≡ value
    → new % 2 ^ (8 - (j + n)) ≡ slice_index row k % 2 ^ (8 - (j + n))
    → SetsField row (set row k new) (8 * k + j) n value
SetsField-in_byte row k j n new value within inside above written below = record {
  same_length = length-set row k new;
  reads_back = field-in_byte (set row k new) k j n inside ∙ rw get_or-set_same written;
  before = λ i h. kept_bit row k new i within (λ e.
      let old = slice_index row k in
      let p = 7 - i % 8 in
      let q = p - (8 - j) in
      high_bit new (8 - j) p (omega arith) ∙ ap (λ x. x / 2 ^ q % 2) above ∙ sym (high_bit old (8 - j) p (omega arith)));
  after = λ i h. kept_bit row k new i within (λ e.
      let old = slice_index row k in
      let p = 7 - i % 8 in
      let m = 8 - (j + n) in
      low_bit new m p (omega arith) ∙ ap (λ x. x / 2 ^ p % 2) below ∙ sym (low_bit old m p (omega arith)));
}

-- eight bits from a byte's place on are the byte
pub field-whole_byte : (row : List ℕ) (k : ℕ) → slice_index row k < 256 → field row (8 * k) 8 ≡ slice_index row k
field-whole_byte row k h = let e = field-in_byte row k 0 8 (omega arith) in rw add-zero at e ∙ omega arith

-- to write a whole byte is to set its eight bits
pub SetsField-whole_byte : (row : List ℕ) (k value : ℕ) → k < length row → value < 256 → SetsField row (set row k value) (8 * k) 8 value
SetsField-whole_byte row k value within small = record {
  same_length = length-set row k value;
  reads_back = field-whole_byte (set row k value) k (rw get_or-set_same small) ∙ get_or-set_same row k value 0 within;
  before = λ i h. kept_bit row k value i within (λ e. absurd (omega arith));
  after = λ i h. kept_bit row k value i within (λ e. absurd (omega arith));
}

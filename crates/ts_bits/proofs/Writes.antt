-- What writing a bit, and one bit more, leaves of a row.
use Rattle.std.proofs.Common.{◌≡◌, ◌≢◌, ℕ, ◌+◌, ◌-◌, ◌*◌, ◌/◌, ◌%◌, ◌^◌, ◌<◌, List, length, get_or, set, refl, sym, ap, ◌∙◌, arith, suc, zero, add-zero, add-one, zero-mul, inl, inr}
use Rattle.std.proofs.lemmas.Bool.{cases_eq}
use Rattle.std.specs.Prelude.{bit_and, bit_or}
use Rattle.std.proofs.lemmas.List.{get_or-set_same, get_or-set_other, length-set}
use Rattle.std.proofs.lemmas.Nat.{div_below, one_shl, pow_pos, shr-shr}
use Rattle.std.proofs.lemmas.Nat.Bits.{bit_at_or, bit_at-zero, bit_at-pow_same, bit_at-pow_other, bit_at_clear_same, bit_at_clear_other}
use Rattle.std.specs.Int.{bit_at, w8}
use Rattle.ts_bit_rows.specs.BitRow.{bit_of, field, SetsField}
use Rattle.ts_bit_rows.proofs.Fields.{bit_of-in_byte, field-zero, field-suc, field-moved}

-- a byte whose bit at `shift` becomes `bit`
abbrev with_bit : ℕ → ℕ → ℕ → ℕ
with_bit byte shift bit = bit_or (bit_and byte (255 - 1 * 2 ^ shift % 256)) (bit * 2 ^ shift % 256)

-- a bit moved to its place
moved_same : (shift bit : ℕ) → shift < 8 → bit < 2 → bit_at (bit * 2 ^ shift % 256) shift ≡ bit
moved_same shift zero small one_bit = rw zero-mul (bit_at-zero shift)
moved_same shift (suc zero) small one_bit = rw (one_shl shift 8 small) (bit_at-pow_same shift)
moved_same shift (suc (suc n)) small one_bit = absurd (omega arith)

moved_other : (shift bit i : ℕ) → shift < 8 → bit < 2 → i ≢ shift → bit_at (bit * 2 ^ shift % 256) i ≡ 0
moved_other shift zero i small one_bit other = rw zero-mul (bit_at-zero i)
moved_other shift (suc zero) i small one_bit other = rw (one_shl shift 8 small) (bit_at-pow_other shift i other)
moved_other shift (suc (suc n)) i small one_bit other = absurd (omega arith)

with_bit_same : (byte shift bit : ℕ) → shift < 8 → bit < 2 → bit_at (with_bit byte shift bit) shift ≡ bit
with_bit_same byte shift bit small one_bit =
    let cleared : bit_at (bit_and byte (255 - 1 * 2 ^ shift % 256)) shift ≡ 0 = bit_at_clear_same w8 byte shift small in
    rw (bit_at_or (bit_and byte (255 - 1 * 2 ^ shift % 256)) (bit * 2 ^ shift % 256) shift, cleared, moved_same shift bit small one_bit) (omega arith)

with_bit_other : (byte shift bit i : ℕ) → shift < 8 → bit < 2 → i < 8 → i ≢ shift → bit_at (with_bit byte shift bit) i ≡ bit_at byte i
with_bit_other byte shift bit i small one_bit within other =
    let kept : bit_at (bit_and byte (255 - 1 * 2 ^ shift % 256)) i ≡ bit_at byte i = bit_at_clear_other w8 byte shift small i within other in
    rw (bit_at_or (bit_and byte (255 - 1 * 2 ^ shift % 256)) (bit * 2 ^ shift % 256) i, kept, moved_other shift bit i small one_bit other) (omega arith)

-- the bits of a row with one byte written
set_here : (row : List ℕ) (index value place : ℕ) → index < length row → place < 8 → bit_of (set row index value) (8 * index + place) ≡ bit_at value (7 - place)
set_here row index value place there small =
    bit_of-in_byte (set row index value) index place small ∙ ap (λ byte. bit_at byte (7 - place)) (get_or-set_same row index value 0 there)

set_elsewhere : (row : List ℕ) (index value i : ℕ) → i / 8 ≢ index → bit_of (set row index value) i ≡ bit_of row i
unfolding bit_of
set_elsewhere row index value i other = rw (get_or-set_other row index (i / 8) value 0 other) refl

-- one bit written
set_bit-other : (row : List ℕ) (index place bit i : ℕ) → index < length row → place < 8 → bit < 2 → i ≢ 8 * index + place → bit_of (set row index (with_bit (get_or row index 0) (7 - place) bit)) i ≡ bit_of row i
set_bit-other row index place bit i there small one_bit other =
    elim (cases_eq (i / 8) index) [
      | inl same ↦
          let parts : 8 * index + i % 8 ≡ i = omega arith in
          let apart : 7 - i % 8 ≢ 7 - place = omega arith in
          let here : bit_of (set row index (with_bit (get_or row index 0) (7 - place) bit)) (8 * index + i % 8) ≡ bit_of row (8 * index + i % 8) =
          set_here row index (with_bit (get_or row index 0) (7 - place) bit) (i % 8) there (omega arith)
          ∙ with_bit_other (get_or row index 0) (7 - place) bit (7 - i % 8) (omega arith) one_bit (omega arith) apart
          ∙ sym (bit_of-in_byte row index (i % 8) (omega arith)) in
          rw parts at here
      | inr away ↦ set_elsewhere row index (with_bit (get_or row index 0) (7 - place) bit) i away
    ]

pub sets_bit : (row : List ℕ) (index place bit : ℕ) → index < length row → place < 8 → bit < 2 → SetsField row (set row index (with_bit (get_or row index 0) (7 - place) bit)) (8 * index + place) 1 bit
sets_bit row index place bit there small one_bit =
    let written : bit_of (set row index (with_bit (get_or row index 0) (7 - place) bit)) (8 * index + place) ≡ bit =
    set_here row index (with_bit (get_or row index 0) (7 - place) bit) place there small
    ∙ with_bit_same (get_or row index 0) (7 - place) bit (omega arith) one_bit in
    record {
      same_length = length-set _ _ _;
      reads_back = rw (field-suc, field-zero, add-zero, written) (omega arith);
      before = λ i early. set_bit-other row index place bit i there small one_bit (omega arith);
      after = λ i late. set_bit-other row index place bit i there small one_bit (omega arith);
    }

-- no bit written
pub sets_none : (row : List ℕ) (at value : ℕ) → value ≡ 0 → SetsField row row at 0 value
sets_none row at value none = record { same_length = refl; reads_back = field-zero row at ∙ sym none; before = λ i early. refl; after = λ i late. refl }

-- one bit more written
pub sets_more : (old mid new : List ℕ) (at count i value : ℕ) → i < count → SetsField old mid at i (value / 2 ^ (count - i)) → SetsField mid new (at + i) 1 (value / 2 ^ (count - 1 - i) % 2) → SetsField old new at (i + 1) (value / 2 ^ (count - (i + 1)))
sets_more old mid new at count i value inside front one =
    let one_less : count - (i + 1) ≡ count - 1 - i = omega arith in
    let one_more : count - 1 - i + 1 ≡ count - i = omega arith in
    let halved : value / 2 ^ (count - 1 - i) / 2 ≡ value / 2 ^ (count - i) = shr-shr value (count - 1 - i) 1 ∙ ap (λ n. value / 2 ^ n) one_more in
    let kept : field new at i ≡ field mid at i = field-moved new mid at at i (λ j h. one.before (at + j) (omega arith)) in
    let front_read : field mid at i ≡ value / 2 ^ (count - i) = front.reads_back in
    let last : bit_of new (at + i) ≡ value / 2 ^ (count - 1 - i) % 2 =
    (let one_read : field new (at + i) 1 ≡ value / 2 ^ (count - 1 - i) % 2 = one.reads_back in
    let alone : field new (at + i) 1 ≡ bit_of new (at + i) = rw (field-suc, field-zero, add-zero) (omega arith) in
    sym alone ∙ one_read) in
    record {
      same_length = one.same_length ∙ front.same_length;
      reads_back = ap (field new at) (add-one i) ∙ rw (field-suc new at i, kept, front_read, last, one_less, ← halved) (omega arith);
      before = λ j early. one.before j (omega arith) ∙ front.before j early;
      after = λ j late. one.after j (omega arith) ∙ front.after j (omega arith);
    }

-- a bit counted from the first byte, and from its own
pub same_bit : (at i : ℕ) → 8 * (at / 8 + (at % 8 + i) / 8) + (at % 8 + i) % 8 ≡ at + i
same_bit at i = omega arith

pub none_left : (value count : ℕ) → value < 2 ^ count → value / 2 ^ (count - 0) ≡ 0
none_left value count small =
    let enough : value < 1 * 2 ^ count = omega arith in
    let below : value / 2 ^ count < 1 = div_below value (2 ^ count) 1 (pow_pos count) enough in
    let same : count - 0 ≡ count = omega arith in
    rw same (omega arith)

pub all_read : (value count i : ℕ) → i ≡ count → value / 2 ^ (count - i) ≡ value
all_read value count i all =
    let none : count - i ≡ 0 = omega arith in
    rw none (omega arith)

-- Decimal digits in half-bytes.
use Rattle.std.proofs.Common.{◌≡◌, ℕ, ◌+◌, ◌-◌, ◌*◌, ◌/◌, ◌%◌, ◌^◌, ◌<◌, ◌≤◌, List, refl, sym, ap, ◌∙◌, arith, suc, zero, add-one, pow-suc, below_more}
use Rattle.std.proofs.Math.Nat.{pow-le-pow_right}
use Rattle.std.proofs.lemmas.Nat.{and_mask}
use Rattle.std.specs.Prelude.{bit_and}
use Rattle.std.specs.Prelude.{Result, Ok, Err, OnOk}
use Rattle.ts_bit_rows.specs.BitRow.{field, SetsField}
use Rattle.ts_bits.specs.declared.row.ShortInput.{ShortInput}
use Rattle.ts_bits.specs.Decimal.{packed, decimal, AreDigits, half_byte, SetsDecimal}
use Rattle.ts_bit_rows.proofs.Fields.{field-split, field-below, field-part}

pub packed-zero : (value : ℕ) → packed 0 value ≡ 0
unfolding packed
packed-zero value = refl

pub packed-suc : (digits value : ℕ) → packed (suc digits) value ≡ 16 * packed digits (value / 10) + value % 10
unfolding packed
packed-suc digits value = refl

pub packed-lt : (digits value : ℕ) → packed digits value < 2 ^ (4 * digits)
packed-lt zero value = rw packed-zero (omega arith)
packed-lt (suc digits) value =
    let four_more : 4 * suc digits ≡ suc (suc (suc (suc (4 * digits)))) = omega arith in
    rw (packed-suc, four_more, pow-suc, pow-suc, pow-suc, pow-suc) (omega (arith, packed-lt digits (value / 10)))

pub decimal-zero : (row : List ℕ) (at : ℕ) → decimal row at 0 ≡ 0
unfolding decimal
decimal-zero row at = refl

pub decimal-suc : (row : List ℕ) (at digits : ℕ) → decimal row at (suc digits) ≡ 10 * decimal row at digits + half_byte row at digits
unfolding decimal
decimal-suc row at digits = refl

-- the half-byte at a place, taken from the whole field
pub half_byte-part : (row : List ℕ) (at digits place : ℕ) → place < digits → field row at (4 * digits) / 2 ^ (4 * (digits - 1 - place)) % 2 ^ 4 ≡ half_byte row at place
half_byte-part row at digits place inside =
    let split : 4 * place + 4 + 4 * (digits - 1 - place) ≡ 4 * digits = omega arith in
    ap (λ bits. field row at bits / 2 ^ (4 * (digits - 1 - place)) % 2 ^ 4) (sym split)
    ∙ field-part row at (4 * place) 4 (4 * (digits - 1 - place))

-- a field that is a packed number reads back as that number
pub decimal-packed : (row : List ℕ) (at digits value : ℕ) → field row at (4 * digits) ≡ packed digits value → value < 10 ^ digits → (decimal row at digits ≡ value) × AreDigits row at digits
decimal-packed row at zero value same small = (rw decimal-zero (omega arith), λ place early. absurd (omega arith))
decimal-packed row at (suc digits) value same small =
    let four_more : 4 * suc digits ≡ 4 * digits + 4 = omega arith in
    let both : field row at (4 * digits) * 2 ^ 4 + half_byte row at digits ≡ 16 * packed digits (value / 10) + value % 10 =
    sym (field-split row at (4 * digits) 4) ∙ ap (field row at) (sym four_more) ∙ same ∙ packed-suc digits value in
    let half_small : half_byte row at digits < 2 ^ 4 = field-below row (at + 4 * digits) 4 in
    let front : field row at (4 * digits) ≡ packed digits (value / 10) = omega arith in
    let last : half_byte row at digits ≡ value % 10 = omega arith in
    let power : 10 ^ suc digits ≡ 10 ^ digits * 10 = pow-suc 10 digits in
    let fewer : value / 10 < 10 ^ digits = omega arith in
    let rest : (decimal row at digits ≡ value / 10) × AreDigits row at digits = decimal-packed row at digits (value / 10) front fewer in
    let rest_value : decimal row at digits ≡ value / 10 = rest.0 in (
      rw decimal-suc (omega arith),
      rw (← add-one) (below_more (λ place. half_byte row at place ≤ 9) digits rest.1 (omega arith)),
    )

pub decimal-lt : (row : List ℕ) (at digits : ℕ) → AreDigits row at digits → decimal row at digits < 10 ^ digits
decimal-lt row at zero are = rw decimal-zero (omega arith)
decimal-lt row at (suc digits) are =
    rw (decimal-suc, pow-suc)
    (omega (arith, decimal-lt row at digits (λ place early. are place (omega arith)), are digits (omega arith)))

-- at most eight digits are a small number
pub decimal-lt_eight : (row : List ℕ) (at digits : ℕ) → digits ≤ 8 → AreDigits row at digits → decimal row at digits < 100000000
decimal-lt_eight row at digits few are =
    let positive : 0 < 10 = omega arith in
    let below : 10 ^ digits ≤ 10 ^ 8 = pow-le-pow_right positive few in
    omega (arith, decimal-lt row at digits are)

-- the half-byte at a place as the code takes it
pub masked_half_byte : (row : List ℕ) (at digits place packed_value : ℕ) → packed_value ≡ field row at (4 * digits) → place < digits → bit_and (packed_value / 2 ^ (4 * (digits - 1 - place))) 15 ≡ half_byte row at place
masked_half_byte row at digits place packed_value same inside =
    and_mask (packed_value / 2 ^ (4 * (digits - 1 - place))) 4
    ∙ ap (λ n. n / 2 ^ (4 * (digits - 1 - place)) % 2 ^ 4) same
    ∙ half_byte-part row at digits place inside

-- what writing the packed digits leaves
pub sets_decimal : (old new : List ℕ) (at digits value packed_value : ℕ) (result : Result (Unit {0}) ShortInput) → packed_value ≡ packed digits value → value < 10 ^ digits → OnOk result (SetsField old new at (4 * digits) packed_value) → OnOk result (SetsDecimal old new at digits value)
sets_decimal old new at digits value packed_value (Err e) same small set = tt
sets_decimal old new at digits value packed_value (Ok u) same small set =
    let read : (decimal new at digits ≡ value) × AreDigits new at digits = decimal-packed new at digits value (set.reads_back ∙ same) small in
    record { same_length = set.same_length; are_digits = read.1; reads_back = read.0; before = set.before; after = set.after }

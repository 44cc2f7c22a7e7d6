-- Decimal digits of four bits each in a row of bytes.
-- ETSI EN 300 468, 5.2.5 and 6.2.13: "4-bit Binary Coded Decimal".
use Rattle.std.specs.Prelude.{◌≡◌, ℕ, ◌+◌, ◌*◌, ◌/◌, ◌%◌, ◌<◌, ◌≤◌, List, length, suc, zero}
use Rattle.ts_bit_rows.specs.BitRow.{bit_of, field}
use Rattle.ts_bits.specs.declared.decimal.BcdFault.{BcdFault}
use Rattle.ts_bits.specs.declared.decimal.BcdFault.TheVariants.{Short, Digit}

-- the half-byte at a place, counted from the bit `at` on
abbrev pub half_byte : List ℕ → ℕ → ℕ → ℕ
half_byte row at place = field row (at + 4 * place) 4

-- each of the first half-bytes from the bit `at` on is a decimal digit
abbrev pub AreDigits : List ℕ → ℕ → ℕ → Type 0
AreDigits row at digits = (place : ℕ) → place < digits → half_byte row at place ≤ 9

-- the number that the digits from the bit `at` on give, highest first
unfoldable pub decimal : List ℕ → ℕ → ℕ → ℕ
decimal row at zero = 0
decimal row at (suc digits) = 10 * decimal row at digits + half_byte row at digits

-- the decimal digits of a number in half-bytes
unfoldable pub packed : ℕ → ℕ → ℕ
packed zero value = 0
packed (suc digits) value = 16 * packed digits (value / 10) + value % 10

-- in a row of bytes the digits from the bit `at` on now give `value`, and nothing else has changed
pub record SetsDecimal (old new : List ℕ) (at digits value : ℕ) : Type 0 where
  pub same_length : length new ≡ length old
  pub are_digits : AreDigits new at digits
  pub reads_back : decimal new at digits ≡ value
  pub before : (i : ℕ) → i < at → bit_of new i ≡ bit_of old i
  pub after : (i : ℕ) → at + 4 * digits ≤ i → bit_of new i ≡ bit_of old i

-- why there are no such digits: the row ends before the last one, or the half-byte at a place is the
-- first above 9
abbrev pub IsBcdFault : List ℕ → ℕ → ℕ → BcdFault → Type 0
IsBcdFault row at digits Short = 8 * length row < at + 4 * digits
IsBcdFault row at digits (Digit place) =
    (at + 4 * digits ≤ 8 * length row) × (place < digits) × (9 < half_byte row at place) × AreDigits row at place

-- Decimal digits of a text.
-- This project's own rule: digits are those of ASCII, 0x30 to 0x39.
use Rattle.std.specs.Prelude.{ℕ, ◌+◌, ◌-◌, ◌%◌, ◌&&◌, List, slice_index, Bool, nat_le, if◌then◌else◌, Option, Some, None}

-- a byte that is a digit
abbrev pub is_digit : ℕ → Bool
is_digit byte = nat_le 48 byte && nat_le byte 57

-- the value of the digit at a place of a text
abbrev pub digit_at : List ℕ → ℕ → Option ℕ
digit_at text place =
    if is_digit (slice_index text place) then Some (slice_index text place - 48) else None

-- the byte of the last digit of a number
abbrev pub last_digit : ℕ → ℕ
last_digit number = 48 + number % 10

-- reading continues with what was read; none stays none
infixl 10 ◌>>=◌
abbrev pub ◌>>=◌ : {A B : Type 0} → Option A → (A → Option B) → Option B
None >>= next = None
(Some x) >>= next = next x

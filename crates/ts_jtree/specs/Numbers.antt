-- Numbers and Booleans of JSON, and the same as texts.
-- This project's own rule: a number is a whole number of JSON, or a text of decimal digits, or of `0x` and
-- hexadecimal digits of either case; a Boolean is one of JSON or its word. Texts may have any length.
use Rattle.std.specs.Prelude.{ℕ, ◌&&◌, ◌^◌, Bool, List, None, Option, Some, codes, drop, bytes_eq, if◌then◌else◌, length, nat_eq, nat_lt, option_and_then, option_map}
use Rattle.std.specs.Char.{digit_value}
use Rattle.std.specs.List.{list_all, starts_with}
use Rattle.std.specs.Str.Parse.{digits_value}
use Rattle.serde_json.specs.Data.{Data}
use Rattle.serde_json.specs.Find.{as_number, as_u64, as_str, as_bool}

-- only digits of the radix
abbrev pub are_digits : ℕ → List ℕ → Bool
are_digits radix digits = list_all (λ digit. nat_lt (digit_value digit) radix) digits

-- the number that one or more digits write, the highest first, without a bound
abbrev pub numeral : ℕ → List ℕ → Option ℕ
numeral radix digits =
    if nat_lt 0 (length digits) && are_digits radix digits then Some (digits_value radix digits) else None

-- the number of a text
unfoldable pub number_of_text : List ℕ → Option ℕ
number_of_text text =
    if starts_with nat_eq text (codes "0x") then numeral 16 (drop 2 text) else numeral 10 text

-- what a value is, or else what its text is
abbrev pub or_text : Option ℕ → (List ℕ → Option ℕ) → Data → Option ℕ
or_text (Some n) of value = Some n
or_text None of value = option_and_then of (as_str value)

-- the number of a value; none for a negative one and one with a fraction or an exponent
unfoldable pub number_of : Data → Option ℕ
number_of value = or_text (option_and_then as_u64 (as_number value)) number_of_text value

-- a number as 64 bits hold it: the greatest of them stands for every greater number
abbrev pub capped : ℕ → ℕ
capped n = if nat_lt n (2 ^ 64) then n else 0xFFFFFFFFFFFFFFFF

-- the bit of a Boolean
abbrev pub truth_bit : Bool → ℕ
truth_bit b = if b then 1 else 0

-- the bit of a word
abbrev pub bit_of_word : List ℕ → Option ℕ
bit_of_word text =
    if bytes_eq text (codes "true") then Some 1 else if bytes_eq text (codes "false") then Some 0 else None

-- the bit of a Boolean or its word
unfoldable pub bit_of : Data → Option ℕ
bit_of value = or_text (option_map truth_bit (as_bool value)) bit_of_word value

-- Numbers as words write them.
-- This project's own rule.
use Rattle.std.specs.Prelude.{ℕ, ◌&&◌, Bool, List, None, Option, Some, codes, drop, if◌then◌else◌, length, nat_eq, nat_le, nat_lt, option_and_then}
use Rattle.std.specs.Char.{digit_value}
use Rattle.std.specs.List.{list_all, starts_with}
use Rattle.std.specs.Str.Parse.{digits_value}

-- one or more digits of the radix, and nothing else
abbrev pub is_numeral : ℕ → List ℕ → Bool
is_numeral radix digits =
    nat_lt 0 (length digits) && list_all (λ digit. nat_lt (digit_value digit) radix) digits

-- the number that the digits write, the highest digit first
abbrev pub numeral : ℕ → List ℕ → Option ℕ
numeral radix digits = if is_numeral radix digits then Some (digits_value radix digits) else None

-- the number of a text: decimal digits, or `0x` and hexadecimal digits of either case
unfoldable pub number_of : List ℕ → Option ℕ
number_of text =
    if starts_with nat_eq text (codes "0x") then numeral 16 (drop 2 text) else numeral 10 text

-- the number, where it lies between a least and a greatest
abbrev pub if_within : ℕ → ℕ → ℕ → Option ℕ
if_within least most n = if nat_le least n && nat_le n most then Some n else None

-- the number of a text, from a least to a greatest
unfoldable pub number_within : ℕ → ℕ → List ℕ → Option ℕ
number_within least most text = option_and_then (if_within least most) (number_of text)

-- Numbers with a sign as words write them.
-- This project's own rule.
use Rattle.std.specs.Prelude.{ℕ, ℤ, pos, neg_ℤ, int_le, ◌&&◌, List, None, Option, Some, codes, drop, if◌then◌else◌, nat_eq, option_and_then, option_map}
use Rattle.std.specs.List.{starts_with}
use Rattle.plugin_options.specs.Number.{number_of}

-- the number of a text: `-` before a number is as much below 0, so that `-0` is 0; there is no other sign
unfoldable pub signed_of : List ℕ → Option ℤ
signed_of text =
    if starts_with nat_eq text (codes "-")
    then option_map (λ n. neg_ℤ (pos n)) (number_of (drop 1 text))
    else option_map pos (number_of text)

-- the number, where it lies between a least and a greatest
abbrev pub if_signed_within : ℤ → ℤ → ℤ → Option ℤ
if_signed_within least most n = if int_le least n && int_le n most then Some n else None

-- the number of a text, from a least to a greatest
unfoldable pub signed_within : ℤ → ℤ → List ℕ → Option ℤ
signed_within least most text = option_and_then (if_signed_within least most) (signed_of text)

-- Lists of numbers and ranges as words write them.
-- This project's own rule.
use Rattle.std.specs.Prelude.{ℕ, ◌==◌, Bool, List, None, Option, Some, if◌then◌else◌, nat_le, option_map}
use Rattle.std.specs.List.{after_first, before_first, list_any}
use Rattle.plugin_options.specs.Joined.{read_joined}
use Rattle.plugin_options.specs.Number.{number_within}

-- the byte is `-`
abbrev pub is_dash : ℕ → Bool
is_dash byte = byte == 45

-- the two as a range, where the first is at most the second
abbrev pub if_ordered : ℕ → ℕ → Option (ℕ × ℕ)
if_ordered low high = if nat_le low high then Some (low, high) else None

-- two numbers, either of which may be missing, as a range
abbrev pub ordered_pair : Option ℕ → Option ℕ → Option (ℕ × ℕ)
ordered_pair (Some low) (Some high) = if_ordered low high
ordered_pair _ _ = None

-- `a-b` with `a` at most `b`, or `a` alone for the range from `a` to `a`; none is below a least or above a greatest
unfoldable pub range_of : ℕ → ℕ → List ℕ → Option (ℕ × ℕ)
range_of least most text =
    if list_any is_dash text
    then ordered_pair (number_within least most (before_first is_dash text))
    (number_within least most (after_first is_dash text))
    else option_map (λ n. (n, n)) (number_within least most text)

-- numbers and ranges from 0 to a greatest, joined by commas; an empty part is not one
unfoldable pub ranges_of : ℕ → List ℕ → Option (List (ℕ × ℕ))
ranges_of most text = read_joined (range_of 0 most) text

-- the same from a least on
unfoldable pub ranges_within : ℕ → ℕ → List ℕ → Option (List (ℕ × ℕ))
ranges_within least most text = read_joined (range_of least most) text

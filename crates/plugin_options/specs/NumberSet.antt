-- Sets of numbers as lists of ranges.
-- This project's own rule.
use Rattle.std.specs.Prelude.{ℕ, ◌&&◌, ◌≤◌, ◌<◌, Bool, List, nat_le}
use Rattle.std.specs.List.{All, list_any}

-- a range: a least number and a greatest, which may be equal
abbrev pub IsOrderedPair : ℕ × ℕ → Type 0
IsOrderedPair pair = pair.0 ≤ pair.1

-- the number lies in the range
abbrev pub is_within : ℕ → ℕ × ℕ → Bool
is_within number pair = nat_le pair.0 number && nat_le number pair.1

-- the number lies in one of the ranges
abbrev pub has_number : List (ℕ × ℕ) → ℕ → Bool
has_number pairs number = list_any (is_within number) pairs

-- every number of the ranges is below a bound
abbrev pub AllBelow : ℕ → List (ℕ × ℕ) → Type 0
AllBelow bound pairs = All (λ pair. pair.1 < bound) pairs

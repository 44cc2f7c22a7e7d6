-- Two numbers joined by a sign, as words write them.
-- This project's own rule.
use Rattle.std.specs.Prelude.{ℕ, ◌==◌, ◌≤◌, List, None, Option, Some, if◌then◌else◌}
use Rattle.std.specs.List.{after_first, before_first, list_any}
use Rattle.plugin_options.specs.Joined.{read_joined}
use Rattle.plugin_options.specs.Number.{number_within}

-- both, where neither is missing
abbrev pub both_of : {X Y : Type 0} → Option X → Option Y → Option (X × Y)
both_of (Some one) (Some other) = Some (one, other)
both_of _ _ = None

-- two numbers with the sign between them, each between its own least and greatest
unfoldable pub pair_of : ℕ → ℕ × ℕ → ℕ × ℕ → List ℕ → Option (ℕ × ℕ)
pair_of sign first second text =
    if list_any (λ byte. byte == sign) text
    then both_of (number_within first.0 first.1 (before_first (λ byte. byte == sign) text))
    (number_within second.0 second.1 (after_first (λ byte. byte == sign) text))
    else None

-- such pairs joined by commas; an empty part is not a pair
unfoldable pub pairs_of : ℕ → ℕ × ℕ → ℕ × ℕ → List ℕ → Option (List (ℕ × ℕ))
pairs_of sign first second text = read_joined (pair_of sign first second) text

-- each number of a pair lies between its least and its greatest
abbrev pub IsPairWithin : ℕ × ℕ → ℕ × ℕ → ℕ × ℕ → Type 0
IsPairWithin first second pair =
    (first.0 ≤ pair.0) × (pair.0 ≤ first.1) × (second.0 ≤ pair.1) × (pair.1 ≤ second.1)

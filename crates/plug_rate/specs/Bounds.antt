-- Bounds of a bit rate. This project's own rule.
use Rattle.std.specs.Prelude.{ℕ, Bool, true, false, ◌||◌, nat_le, nat_lt, is_some, Option, None, Some, if◌then◌else◌}
use Rattle.plug_rate.specs.declared.bounds.Bounds.{Bounds}
use Rattle.plug_rate.specs.declared.verdict.Verdict.{Verdict}
use Rattle.plug_rate.specs.declared.verdict.Verdict.TheVariants.{Unbounded, Within, Again, Low, High}

-- the least is at most the greatest, where both are given
abbrev pub are_in_order : Bounds → Bool
are_in_order bounds = in_order bounds.least bounds.most
  where
    in_order : Option ℕ → Option ℕ → Bool
    in_order None most = true
    in_order (Some least) None = true
    in_order (Some least) (Some most) = nat_le least most

-- the rate is below the least, or above the greatest, where such a one is given
abbrev pub is_below : ℕ → Option ℕ → Bool
is_below rate None = false
is_below rate (Some least) = nat_lt rate least

abbrev pub is_above : ℕ → Option ℕ → Bool
is_above rate None = false
is_above rate (Some most) = nat_lt most rate

-- it is outside of them
abbrev pub is_outside : Bounds → ℕ → Bool
is_outside bounds rate = is_below rate bounds.least || is_above rate bounds.most

-- a bound is given
abbrev pub has_bound : Bounds → Bool
has_bound bounds = is_some bounds.least || is_some bounds.most

-- how a rate stands to the bounds, where the one before was outside of them or not
abbrev pub verdict_of : Bounds → Bool → ℕ → Verdict
verdict_of bounds was_outside rate =
    if is_below rate bounds.least then Low
    else (if is_above rate bounds.most then High
    else (if was_outside then Again
    else (if has_bound bounds then Within else Unbounded)))

-- the rate is outside of them, by its verdict
abbrev pub is_fault : Verdict → Bool
is_fault Low = true
is_fault High = true
is_fault Unbounded = false
is_fault Within = false
is_fault Again = false

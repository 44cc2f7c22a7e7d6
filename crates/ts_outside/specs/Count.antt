-- Counts of faults. This project's own rule.
use Rattle.std.specs.Prelude.{ℕ, ◌≡◌, ◌+◌, ◌-◌, ◌^◌, ◌<◌, ◌≤◌, nat_lt, if◌then◌else◌}

-- the greatest count
abbrev pub count_end : ℕ
count_end = 2 ^ 64 - 1

-- the count after one more fault; it saturates at the greatest count
abbrev pub raised : ℕ → ℕ
raised n = if nat_lt n count_end then n + 1 else n

-- a fault may be returned: the count has not fallen, and it rose unless it was the greatest before
pub record HasCause (old new : ℕ) : Type 0 where
  pub not_fallen : old ≤ new
  pub rose : old < count_end → old < new

-- no fault happened: the count has not risen, and it was not the greatest before
pub record IsQuiet (old new : ℕ) : Type 0 where
  pub same : new ≡ old
  pub below : old < count_end

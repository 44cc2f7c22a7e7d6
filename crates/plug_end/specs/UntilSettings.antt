-- Valid settings of `until`.
-- This project's own rule.
use Rattle.std.specs.Prelude.{◌==◌, ◌+◌, ◌≤◌, ◌&&◌, ◌||◌, not, ℕ, Bool, IfSome, IsTrue, Option, if◌then◌else◌, is_some}
use Rattle.plugin_options.specs.declared.limits.TheConstants.{LAST_PID, MOST_NUMBER}
use Rattle.plug_end.specs.declared.limits.TheConstants.{MOST_SECONDS}
use Rattle.plug_end.specs.declared.until_conf.UntilConf.{UntilConf}

-- 1 for a number that is given, else 0
abbrev pub one_if_given : Option ℕ → ℕ
one_if_given n = if is_some n then 1 else 0

-- how many of the four numbers are given
abbrev pub counts_given : UntilConf → ℕ
counts_given c = one_if_given c.packets + one_if_given c.bytes + one_if_given c.unit_start_count + one_if_given c.seconds

-- a count that is given is from 1 to 2^60
abbrev pub IsCount : Option ℕ → Type 0
IsCount n = IfSome n (λ k. (1 ≤ k) × (k ≤ MOST_NUMBER))

-- seconds that are given are at most 2^32, and a PID at most 8191
abbrev pub IsAtMost : ℕ → Option ℕ → Type 0
IsAtMost most n = IfSome n (λ k. k ≤ most)

-- one number is given, not both flags, and a PID only with seconds
abbrev pub until_together : UntilConf → Bool
until_together c = counts_given c == 1 && (not (c.exclude_last && c.joint_termination)
    && (not (is_some c.pcr_pid) || is_some c.seconds))

-- the settings give what `until` needs, each number in its range, and no two that exclude each other
pub record IsValidUntil (c : UntilConf) : Type 0 where
  pub of_packets : IsCount c.packets
  pub of_bytes : IsCount c.bytes
  pub of_unit_starts : IsCount c.unit_start_count
  pub of_seconds : IsAtMost MOST_SECONDS c.seconds
  pub of_pid : IsAtMost LAST_PID c.pcr_pid
  pub together : IsTrue (until_together c)

-- Valid settings of `slice`.
-- This project's own rule.
use Rattle.std.specs.Prelude.{◌==◌, ◌≤◌, ◌&&◌, ◌||◌, ℕ, Bool, IfSome, IsTrue, Option, Some, false, is_some, not}
use Rattle.plugin_options.specs.declared.limits.TheConstants.{LAST_PID, MOST_NUMBER}
use Rattle.plug_pass.specs.declared.slice_conf.SliceConf.{SliceConf}

-- one of the options is given
abbrev pub has_slice : SliceConf → Bool
has_slice c = is_some c.drop || (is_some c.null || (is_some c.pass || is_some c.stop))

-- both are given, with the same number
abbrev pub same_numbers : Option ℕ → Option ℕ → Bool
same_numbers (Some a) (Some b) = a == b
same_numbers _ _ = false

-- no two options have the same number
abbrev pub slices_differ : SliceConf → Bool
slices_differ c = not (same_numbers c.drop c.null) && (not (same_numbers c.drop c.pass)
    && (not (same_numbers c.drop c.stop) && (not (same_numbers c.null c.pass)
    && (not (same_numbers c.null c.stop) && not (same_numbers c.pass c.stop)))))

-- no two options have the same number, and a PID is given only with milliseconds
abbrev pub slice_together : SliceConf → Bool
slice_together c = slices_differ c && (c.milliseconds || not (is_some c.pcr_pid))

-- a number that is given is at most 2^60
abbrev pub IsBounded : Option ℕ → Type 0
IsBounded n = IfSome n (λ k. k ≤ MOST_NUMBER)

-- the settings give what `slice` needs, each number in its range, and no two that exclude each other
pub record IsValidSlice (c : SliceConf) : Type 0 where
  pub dropped : IsBounded c.drop
  pub nulled : IsBounded c.null
  pub passed : IsBounded c.pass
  pub stopped : IsBounded c.stop
  pub of_pid : IfSome c.pcr_pid (λ k. k ≤ LAST_PID)
  pub given : IsTrue (has_slice c)
  pub together : IsTrue (slice_together c)

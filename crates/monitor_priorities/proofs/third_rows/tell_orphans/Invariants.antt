use Rattle.std.proofs.Common.{◌≡◌, ◌++◌, drop, map}
use Rattle.monitor_priorities.specs.RowErrors.{orphan_error}
use Rattle.monitor_priorities.proofs.third_rows.tell_orphans.Given as goal

-- the errors so far and those of the PIDs that are left
abbrev pub invariant-loop-pid : goal.invariant-loop-pid
invariant-loop-pid l = l.errors.items ++ map (orphan_error l.at) (drop l.pid-index l.pids) ≡ l.fn.errors.items ++ map (orphan_error l.at) l.pids

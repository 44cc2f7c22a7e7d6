use Rattle.std.proofs.Common.{◌≡◌, ◌++◌, drop, filter}
use Rattle.monitor_services.specs.StampErrors.{starts_in}
use Rattle.monitor_services.proofs.stamp_row.started_with.Given as goal

-- the PIDs so far and those that are left
abbrev pub invariant-loop-pid : goal.invariant-loop-pid
invariant-loop-pid l =
    l.now.items ++ filter (starts_in l.started l.packet) (drop l.pid-index l.components) ≡ filter (starts_in l.started l.packet) l.components

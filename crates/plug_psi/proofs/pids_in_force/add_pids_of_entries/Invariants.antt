use Rattle.std.proofs.Common.{◌≡◌, ◌++◌, drop, map}
use Rattle.ts_psi.specs.PatTables.{service_item}
use Rattle.plug_psi.specs.Referred.{entry_pid}
use Rattle.plug_psi.proofs.pids_in_force.add_pids_of_entries.Given as goal

-- the PIDs so far and those of the services that are left
abbrev pub invariant-loop-service : goal.invariant-loop-service
invariant-loop-service l =
    l.pids.items ++ map entry_pid (map service_item (drop l.service-index l.services))
    ≡ l.initial.pids.items ++ map entry_pid (map service_item l.services)

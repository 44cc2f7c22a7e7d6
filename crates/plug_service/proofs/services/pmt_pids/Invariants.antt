use Rattle.std.proofs.Common.{◌≡◌, ◌++◌, drop}
use Rattle.std.specs.Prelude.{option_map}
use Rattle.std.specs.Option.{option_copied}
use Rattle.ts_psi.specs.PatTables.{pat_held}
use Rattle.plug_service.specs.Actions.{pmt_pids}
use Rattle.plug_service.proofs.services.pmt_pids.Given as goal

-- the PIDs so far and those of the services that are left
abbrev pub invariant-loop-service : goal.invariant-loop-service
invariant-loop-service l =
    l.pids.items ++ pmt_pids (drop l.service-index l.services) (option_map pat_held (option_copied l.pat)) ≡ pmt_pids l.services (option_map pat_held (option_copied l.pat))

use Rattle.std.proofs.Common.{◌≡◌, ℕ, ◌++◌, List, drop}
use Rattle.plug_psi.specs.InForce.{pmt_of}
use Rattle.plug_psi.specs.ForceStands.{StandsFor}
use Rattle.plug_service.specs.Actions.{own_pids}
use Rattle.plug_service.proofs.action_row.own_pids.Given as goal

-- the PIDs so far and those of the services that are left
abbrev pub invariant-loop-service : goal.invariant-loop-service
invariant-loop-service l = (fed : List (List ℕ)) → StandsFor l.force fed
    → l.pids.items ++ own_pids (drop l.service-index l.services) (λ other. pmt_of other fed) ≡ own_pids l.services (λ other. pmt_of other fed)

use Rattle.std.proofs.Common.{◌≡◌, ℕ, ◌++◌, List, drop}
use Rattle.std.specs.List.{flat_map}
use Rattle.plug_psi.specs.InForce.{pmt_of}
use Rattle.plug_psi.specs.ForceStands.{StandsFor}
use Rattle.plug_service.specs.Actions.{pids_besides}
use Rattle.plug_psi.proofs.PatLemmas.{pairs_of}
use Rattle.plug_service.proofs.action_row.pids_of_others.Given as goal

-- the PIDs so far and those of the services that are left
abbrev pub invariant-loop-entry : goal.invariant-loop-entry
invariant-loop-entry l = (fed : List (List ℕ)) → StandsFor l.force fed
    → l.pids.items ++ flat_map (pids_besides l.services (λ other. pmt_of other fed)) (pairs_of (drop l.entry-index l.entries))
    ≡ flat_map (pids_besides l.services (λ other. pmt_of other fed)) (pairs_of l.entries)

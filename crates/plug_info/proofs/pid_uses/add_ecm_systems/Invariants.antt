use Rattle.std.proofs.Common.{◌≡◌, ℕ, ◌++◌, List, drop}
use Rattle.std.specs.List.{flat_map}
use Rattle.plug_info.specs.CaSystems.{pmt_systems}
use Rattle.plug_psi.specs.InForce.{pmt_of}
use Rattle.plug_psi.specs.ForceStands.{StandsFor}
use Rattle.plug_info.proofs.UseLemmas.{pairs_of}
use Rattle.plug_info.proofs.pid_uses.add_ecm_systems.Given as goal

-- those so far, and those of the services that are left
abbrev pub invariant-loop-service : goal.invariant-loop-service
invariant-loop-service l = (fed : List (List ℕ)) → StandsFor l.force fed
    → l.systems.items ++ flat_map (λ service. pmt_systems (pmt_of service.0 fed)) (pairs_of (drop l.service-index l.services))
    ≡ l.initial.systems.items ++ flat_map (λ service. pmt_systems (pmt_of service.0 fed)) (pairs_of l.services)

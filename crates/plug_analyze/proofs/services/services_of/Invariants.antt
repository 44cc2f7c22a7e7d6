use Rattle.std.proofs.Common.{◌≡◌, ℕ, List, map, take}
use Rattle.std.specs.List.{filter_map}
use Rattle.ts_psi.specs.PatTables.{service_item}
use Rattle.plug_psi.specs.ForceStands.{StandsFor}
use Rattle.plug_psi.specs.InForce.{pmt_of, service_in}
use Rattle.plug_analyze.specs.AnalyzeRule.{service_with}
use Rattle.plug_analyze.proofs.services.services_of.Given as goal

abbrev pub invariant-loop-service : goal.invariant-loop-service
invariant-loop-service l = (fed : List (List ℕ)) → StandsFor l.force fed
    → l.services.items ≡ map (service_with (λ id. pmt_of id fed)) (filter_map service_in (map service_item (take l.service-index l.entries)))

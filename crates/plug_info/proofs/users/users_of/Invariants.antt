use Rattle.std.proofs.Common.{◌≡◌, ◌≤◌, ℕ, List, map, take}
use Rattle.std.specs.List.{count_by, filter_map}
use Rattle.ts_psi.specs.PatTables.{service_item}
use Rattle.plug_psi.specs.ForceStands.{StandsFor}
use Rattle.plug_psi.specs.InForce.{pmt_of, service_in}
use Rattle.plug_info.specs.InfoRule.{has_component}
use Rattle.plug_info.proofs.users.users_of.Given as goal

abbrev pub invariant-loop-service : goal.invariant-loop-service
invariant-loop-service l = record {
  users : (fed : List (List ℕ)) → StandsFor l.force fed
      → l.users ≡ count_by (λ service. has_component (pmt_of service.0 fed) l.pid) (filter_map service_in (map service_item (take l.service-index l.entries)));
  few : l.users ≤ l.service-index;
}

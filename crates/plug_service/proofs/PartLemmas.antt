-- Tables with the items that stay.
use Rattle.std.proofs.Common.{◌≡◌, ℕ, List, false, sym, ap, arith}
use Rattle.std.specs.Prelude.{◌||◌}
use Rattle.std.proofs.lemmas.Bool.{ne_eqb}
use Rattle.ts_psi.specs.PatTables.{is_network, service_item}
use Rattle.ts_psi.specs.declared.pat.PatService.{PatService}
use Rattle.plug_service.specs.ServiceEdits.{entry_stays, stays}
use Rattle.plug_service.specs.declared.way.Way.{Way}

no-network : (s : PatService) → is_network (service_item s) ≡ false
no-network s = ne_eqb s.service_id 0 (λ e. absurd (omega (arith, e, s.named)))

-- an entry of a service stays as its number does
pub service-stays : (way : Way) (services : List ℕ) (s : PatService) → stays way services s.service_id ≡ entry_stays way services (service_item s)
service-stays way services s = sym (ap (λ b. b || stays way services s.service_id) (no-network s))

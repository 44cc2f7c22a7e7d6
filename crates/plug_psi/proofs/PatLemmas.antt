-- Services of a PAT.
use Rattle.std.proofs.Common.{ℕ, List, map}
use Rattle.std.specs.List.{filter_map}
use Rattle.ts_psi.specs.declared.pat.PatService.{PatService}
use Rattle.ts_psi.specs.PatTables.{service_item}
use Rattle.plug_psi.specs.InForce.{service_in}

-- services as their numbers and PIDs
abbrev pub pairs_of : List PatService → List (ℕ × ℕ)
pairs_of services = filter_map service_in (map service_item services)

use Rattle.std.proofs.Common.{◌≡◌, drop, find, map, Some}
use Rattle.ts_si.specs.SiTables.{sdt_held, service_item}
use Rattle.named_services.specs.NamedServices.{is_named, number_of}
use Rattle.named_services.proofs.named.first_named.Given as goal

-- the first of those that are left is the first of all
abbrev pub invariant-loop-service : goal.invariant-loop-service
invariant-loop-service l = find (is_named l.name (Some (sdt_held l.sdt))) (map number_of (map service_item (drop l.service-index l.services)))
    ≡ find (is_named l.name (Some (sdt_held l.sdt))) (map number_of (map service_item l.services))

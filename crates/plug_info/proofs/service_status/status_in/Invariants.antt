use Rattle.std.proofs.Common.{◌≡◌, drop, map}
use Rattle.ts_si.specs.SiTables.{service_item}
use Rattle.plug_info.specs.SdtStatus.{status_in}
use Rattle.plug_info.proofs.service_status.status_in.Given as goal

-- the result follows from the remaining services
abbrev pub invariant-loop-service : goal.invariant-loop-service
invariant-loop-service l = status_in l.id (map service_item (drop l.service-index l.services)) ≡ status_in l.id (map service_item l.services)

use Rattle.std.proofs.Common.{◌≡◌, drop, map}
use Rattle.ts_si.specs.SiTables.{service_item}
use Rattle.named_services.specs.SdtInForce.{described_in}
use Rattle.named_services.proofs.service_texts.described_in.Given as goal

-- the result follows from the remaining services
abbrev pub invariant-loop-service : goal.invariant-loop-service
invariant-loop-service l = described_in l.id (map service_item (drop l.service-index l.services)) ≡ described_in l.id (map service_item l.services)

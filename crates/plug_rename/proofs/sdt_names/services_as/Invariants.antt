use Rattle.std.proofs.Common.{◌≡◌, map}
use Rattle.ts_si.specs.SiTables.{service_item}
use Rattle.plug_rename.specs.Renaming.{items_as}
use Rattle.plug_rename.proofs.sdt_names.services_as.Given as goal

abbrev pub invariant-loop-service : goal.invariant-loop-service
invariant-loop-service l = map service_item l.all.items ≡ items_as l.conf.service l.conf.id (map service_item l.yielded)

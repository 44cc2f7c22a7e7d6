use Rattle.std.proofs.Common.{◌≡◌, map, take}
use Rattle.ts_psi.specs.PatTables.{service_item}
use Rattle.plug_edit.specs.PatEdit.{with_services}
use Rattle.plug_edit.proofs.pat_edit.add_services.Given as goal

abbrev pub invariant-loop-pair : goal.invariant-loop-pair
invariant-loop-pair l = map service_item l.services.items ≡ with_services (map service_item l.fn.services.items) (take l.pair-index l.added)

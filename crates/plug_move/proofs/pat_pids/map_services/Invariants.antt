use Rattle.std.proofs.Common.{◌≡◌, ◌++◌, map}
use Rattle.std.specs.Vec.Iter.{into_iter_items}
use Rattle.ts_psi.specs.PatTables.{service_item}
use Rattle.plug_move.specs.MappedTables.{mapped_items}
use Rattle.plug_move.proofs.pat_pids.map_services.Given as goal

abbrev pub invariant-loop-service : goal.invariant-loop-service
invariant-loop-service l = record {
  can : (goal.iterator-loop-service).can_next l.service-iterator;
  ends : (goal.iterator-loop-service).is_finite l.service-iterator;
  mapped :
      map service_item l.mapped.items ++ mapped_items l.table.0 (map service_item (into_iter_items l.service-iterator))
      ≡ mapped_items l.table.0 (map service_item l.fn.services.items);
}

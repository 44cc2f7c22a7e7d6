use Rattle.std.proofs.Common.{◌≡◌, ◌++◌}
use Rattle.std.specs.Vec.Iter.{into_iter_items}
use Rattle.plug_move.specs.MappedTables.{mapped_descriptors}
use Rattle.plug_move.proofs.descriptor_pids.map_descriptors.Given as goal

abbrev pub invariant-loop-descriptor : goal.invariant-loop-descriptor
invariant-loop-descriptor l = record {
  can : (goal.iterator-loop-descriptor).can_next l.descriptor-iterator;
  ends : (goal.iterator-loop-descriptor).is_finite l.descriptor-iterator;
  mapped : l.mapped.items ++ mapped_descriptors l.table.0 (into_iter_items l.descriptor-iterator) ≡ mapped_descriptors l.table.0 l.fn.descriptors;
}

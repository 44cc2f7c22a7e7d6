use Rattle.std.proofs.Common.{◌≡◌, ◌++◌, map}
use Rattle.std.specs.Vec.Iter.{into_iter_items}
use Rattle.ts_psi.specs.PsiTables.{component_item}
use Rattle.plug_move.specs.MappedTables.{mapped_items}
use Rattle.plug_move.proofs.pmt_pids.map_components.Given as goal

abbrev pub invariant-loop-component : goal.invariant-loop-component
invariant-loop-component l = record {
  can : (goal.iterator-loop-component).can_next l.component-iterator;
  ends : (goal.iterator-loop-component).is_finite l.component-iterator;
  mapped :
      map component_item l.mapped.items ++ mapped_items l.table.0 (map component_item (into_iter_items l.component-iterator))
      ≡ mapped_items l.table.0 (map component_item l.fn.components.items);
}

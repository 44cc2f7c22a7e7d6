use Rattle.std.proofs.Common.{◌≡◌, ◌++◌, map}
use Rattle.std.specs.Vec.Iter.{into_iter_items}
use Rattle.ts_psi.specs.PsiTables.{component_item}
use Rattle.plug_edit.specs.PmtChanges.{component_without}
use Rattle.plug_edit.proofs.change_components.all_without.Given as goal

abbrev pub invariant-loop-component : goal.invariant-loop-component
invariant-loop-component l = record {
  can : (goal.iterator-loop-component).can_next l.component-iterator;
  ends : (goal.iterator-loop-component).is_finite l.component-iterator;
  left :
      map component_item l.left.items ++ map (component_without l.pairs) (map component_item (into_iter_items l.component-iterator))
      ≡ map (component_without l.pairs) (map component_item l.fn.components.items);
}

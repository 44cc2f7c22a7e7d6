use Rattle.std.proofs.Common.{◌≡◌, ◌++◌}
use Rattle.std.specs.Vec.Iter.{into_iter_items}
use Rattle.plug_edit.specs.CatEdit.{without_ca}
use Rattle.plug_edit.proofs.cat_edit.kept_descriptors.Given as goal

abbrev pub invariant-loop-descriptor : goal.invariant-loop-descriptor
invariant-loop-descriptor l = record {
  can : (goal.iterator-loop-descriptor).can_next l.descriptor-iterator;
  ends : (goal.iterator-loop-descriptor).is_finite l.descriptor-iterator;
  kept : l.kept.items ++ without_ca l.conf (into_iter_items l.descriptor-iterator) ≡ without_ca l.conf l.fn.descriptors.items;
}

use Rattle.std.proofs.Common.{◌≡◌, ◌++◌, map}
use Rattle.std.specs.Vec.Iter.{into_iter_items}
use Rattle.plug_eit.specs.ShortEventChange.{changed_descriptor}
use Rattle.plug_eit.proofs.short_event.with_texts.Given as goal

abbrev pub invariant-loop-descriptor : goal.invariant-loop-descriptor
invariant-loop-descriptor l = record {
  can : goal.iterator-loop-descriptor.can_next l.descriptor-iterator;
  ends : goal.iterator-loop-descriptor.is_finite l.descriptor-iterator;
  made : l.all.items ++ map (changed_descriptor l.fn.conf) (into_iter_items l.descriptor-iterator)
      ≡ map (changed_descriptor l.fn.conf) l.fn.descriptors.items;
}

use Rattle.std.proofs.Common.{◌≡◌, ◌++◌, map}
use Rattle.std.specs.Vec.Iter.{into_iter_items}
use Rattle.ts_eit.specs.EitTables.{event_item}
use Rattle.plug_eit.specs.EventChange.{changed_event}
use Rattle.plug_eit.proofs.events.each_changed.Given as goal

abbrev pub invariant-loop-event : goal.invariant-loop-event
invariant-loop-event l = record {
  can : goal.iterator-loop-event.can_next l.event-iterator;
  ends : goal.iterator-loop-event.is_finite l.event-iterator;
  made : map event_item l.all.items ++ map (changed_event l.fn.conf) (map event_item (into_iter_items l.event-iterator))
      ≡ map (changed_event l.fn.conf) (map event_item l.fn.events.items);
}

use Rattle.std.proofs.Common.{◌≡◌, ◌-◌, ◌≤◌}
use Rattle.plug_time.specs.MovedTimes.{moved_from}
use Rattle.plug_time.proofs.moved_times.move_from.Given as goal

abbrev pub invariant-loop : goal.invariant-loop
invariant-loop l = record {
  header : 4 ≤ l.at;
  near : l.at ≤ 500;
  same : moved_from (61 - l.counter) l.shift l.at l.packet ≡ moved_from 61 l.shift l.fn.first l.fn.packet;
}

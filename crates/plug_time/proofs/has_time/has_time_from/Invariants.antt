use Rattle.std.proofs.Common.{◌≡◌, ◌-◌, ◌≤◌}
use Rattle.plug_time.specs.HasTime.{has_time_from}
use Rattle.plug_time.proofs.has_time.has_time_from.Given as goal

abbrev pub invariant-loop : goal.invariant-loop
invariant-loop l = record {
  near : l.at ≤ 500;
  same : has_time_from (61 - l.counter) l.at l.fn.packet ≡ has_time_from 61 l.fn.first l.fn.packet;
}

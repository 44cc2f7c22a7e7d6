use Rattle.std.proofs.Common.{◌-◌, ◌≡◌, ◌≤◌, vec_len}
use Rattle.ts_outside.specs.Source.{unread}
use Rattle.ts_outside.proofs.reading.read_to_end.Given as goal

abbrev pub invariant-loop-count : goal.invariant-loop-count
invariant-loop-count g l = record {
  within : vec_len l.bytes ≤ l.most;
  front : g.S.Source.seen l.initial.source ≡ unread l.bytes.items (g.S.Source.seen l.source);
}

abbrev pub decreases-loop-count : goal.decreases-loop-count
decreases-loop-count g l = l.most - vec_len l.bytes

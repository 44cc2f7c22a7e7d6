use Rattle.std.proofs.Common.{◌-◌, ◌≡◌, ◌≤◌, take}
use Rattle.ts_outside.specs.Source.{unread}
use Rattle.test_chain.proofs.callers.read_packet.Given as goal

abbrev pub invariant-loop-have : goal.invariant-loop-have
invariant-loop-have g l = record {
  within : l.have ≤ 188;
  front : g.S.Source.seen l.initial.source ≡ unread (take l.have l.packet) (g.S.Source.seen l.source);
}

abbrev pub decreases-loop-have : goal.decreases-loop-have
decreases-loop-have g l = 188 - l.have

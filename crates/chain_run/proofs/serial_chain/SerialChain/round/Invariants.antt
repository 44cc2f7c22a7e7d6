use Rattle.std.proofs.Common.{◌<◌, ◌≡◌, ◌+◌, ℕ, length, true, false}
use Rattle.chain_core.specs.CoreNumbers.{progress_of_core}
use Rattle.stage_run.specs.Seeing.{seeing}
use Rattle.chain_run.specs.SerialRuns.{IsIdleOrOver, remaining_work}
use Rattle.chain_run.specs.Working.{RunsOn}
use Rattle.chain_run.proofs.serial_chain.SerialChain.round.Given as goal

abbrev pub invariant-loop-stage : goal.invariant-loop-stage
invariant-loop-stage g l = record {
  runs : RunsOn (seeing g.S.Source.seen g.K.Sink.seen g.P.Plugin.rule g.P.Plugin.stands_for g.P.Plugin.preallocated) l.fn.self l.self;
  plan : l.self.core.plan ≡ l.fn.self.core.plan;
  parts : length l.self.parts.items ≡ length l.fn.self.parts.items;
  next : l.next < length l.sizes;
  moved : l.moved ≡ true → remaining_work (progress_of_core l.self.core) (l.fn.self.core.plan.plugins + 2) < remaining_work (progress_of_core l.fn.self.core) (l.fn.self.core.plan.plugins + 2);
  rests : l.moved ≡ false → progress_of_core l.self.core ≡ progress_of_core l.fn.self.core;
  idle : l.moved ≡ false → (stage : ℕ) → stage < l.stage → IsIdleOrOver l.fn.self.core.plan (progress_of_core l.fn.self.core) stage;
}

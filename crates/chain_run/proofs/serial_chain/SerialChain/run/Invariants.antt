use Rattle.std.proofs.Common.{◌<◌, ◌≡◌, ◌+◌, length}
use Rattle.chain_core.specs.CoreNumbers.{progress_of_core}
use Rattle.stage_run.specs.Seeing.{seeing}
use Rattle.chain_run.specs.SerialRuns.{remaining_work}
use Rattle.chain_run.specs.Working.{RunsOn}
use Rattle.chain_run.proofs.serial_chain.SerialChain.run.Given as goal

abbrev pub invariant-loop : goal.invariant-loop
invariant-loop g l = record {
  runs : RunsOn (seeing g.S.Source.seen g.K.Sink.seen g.P.Plugin.rule g.P.Plugin.stands_for g.P.Plugin.preallocated) l.fn.self l.self;
  plan : l.self.core.plan ≡ l.fn.self.core.plan;
  next : l.next < length l.sizes;
}

abbrev pub decreases-loop : goal.decreases-loop
decreases-loop g l = remaining_work (progress_of_core l.self.core) (l.fn.self.core.plan.plugins + 2)

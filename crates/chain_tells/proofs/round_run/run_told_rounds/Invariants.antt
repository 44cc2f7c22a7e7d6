use Rattle.std.proofs.Common.{◌<◌, ◌≡◌, ◌+◌, length}
use Rattle.chain_core.specs.CoreNumbers.{progress_of_core}
use Rattle.stage_run.specs.Seeing.{seeing}
use Rattle.chain_run.specs.SerialRuns.{remaining_work}
use Rattle.chain_run.specs.Working.{RunsSomehow}
use Rattle.chain_tells.specs.PrintingRounds.{PrintsRound}
use Rattle.chain_tells.specs.Rounds.{TellsRounds}
use Rattle.chain_tells.proofs.round_run.run_told_rounds.Given as goal

abbrev pub invariant-loop-alloc : goal.invariant-loop-alloc
invariant-loop-alloc g l = record {
  told : TellsRounds (seeing g.S.Source.seen g.K.Sink.seen g.P.Plugin.rule g.P.Plugin.stands_for g.P.Plugin.preallocated) (PrintsRound g.D.Desk.seen g.T.RoundTexts.writes) (l.fn.texts, l.fn.printing, l.fn.desk) (l.texts, l.printing, l.desk) l.fn.told l.told l.fn.chain l.chain;
  runs : RunsSomehow (seeing g.S.Source.seen g.K.Sink.seen g.P.Plugin.rule g.P.Plugin.stands_for g.P.Plugin.preallocated) l.chain;
  rows : length l.lines.rows.items + 2 ≡ length l.chain.parts.items;
  same_rows : length l.lines.rows.items ≡ length l.fn.lines.rows.items;
  plan : l.chain.core.plan ≡ l.fn.chain.core.plan;
  next : l.next < length l.sizes;
}

abbrev pub decreases-loop-alloc : goal.decreases-loop-alloc
decreases-loop-alloc g l = remaining_work (progress_of_core l.chain.core) (l.fn.chain.core.plan.plugins + 2)

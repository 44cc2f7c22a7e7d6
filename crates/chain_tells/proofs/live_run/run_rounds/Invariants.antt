use Rattle.std.proofs.Common.{◌<◌, ◌≡◌, ◌+◌, length}
use Rattle.chain_core.specs.CoreNumbers.{progress_of_core}
use Rattle.stage_run.specs.Seeing.{seeing}
use Rattle.chain_run.specs.SerialRuns.{remaining_work}
use Rattle.chain_run.specs.Working.{RunsSomehow}
use Rattle.chain_tells.specs.Printing.{PrintsLines}
use Rattle.chain_tells.specs.Live.{TellsMore}
use Rattle.chain_tells.proofs.live_run.run_rounds.Given as goal

abbrev pub invariant-loop-alloc : goal.invariant-loop-alloc
invariant-loop-alloc g l = record {
  told : TellsMore (seeing g.S.Source.seen g.K.Sink.seen g.P.Plugin.rule g.P.Plugin.stands_for g.P.Plugin.preallocated) (PrintsLines g.D.Desk.seen (g.L.LineTexts.text_of l.texts)) (l.fn.printing, l.fn.desk) (l.printing, l.desk) l.fn.chain l.chain;
  runs : RunsSomehow (seeing g.S.Source.seen g.K.Sink.seen g.P.Plugin.rule g.P.Plugin.stands_for g.P.Plugin.preallocated) l.chain;
  rows : length l.lines.rows.items + 2 ≡ length l.chain.parts.items;
  same_rows : length l.lines.rows.items ≡ length l.fn.lines.rows.items;
  plan : l.chain.core.plan ≡ l.fn.chain.core.plan;
  next : l.next < length l.sizes;
}

abbrev pub decreases-loop-alloc : goal.decreases-loop-alloc
decreases-loop-alloc g l = remaining_work (progress_of_core l.chain.core) (l.fn.chain.core.plan.plugins + 2)

use Rattle.std.specs.Prelude.{◌≡◌, length}
use Rattle.stage_run.specs.Seeing.{seeing}
use Rattle.chain_tells.specs.Printing.{PrintsLines}
use Rattle.chain_live_threads.specs.RowWent.{RowWent}
use Rattle.chain_live_threads.proofs.driving.drive_row.Given as goal

abbrev pub invariant-loop : goal.invariant-loop
invariant-loop g l =
    (goal.iterator-loop g).can_next l.iterator' × (goal.iterator-loop g).is_finite l.iterator'
    × RowWent (seeing g.S.Source.seen g.K.Sink.seen g.P.Plugin.rule g.P.Plugin.stands_for g.P.Plugin.preallocated) l.ring (PrintsLines g.D.Desk.seen (g.L.LineTexts.text_of l.texts)) (l.fn.telling.printing, l.fn.desk) (l.telling.printing, l.desk) l.fn.telling.told l.telling.told l.fn.row l.row
    × (length l.telling.lines.rows.items ≡ length l.fn.telling.lines.rows.items)

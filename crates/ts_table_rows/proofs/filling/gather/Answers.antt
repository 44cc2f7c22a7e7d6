use Rattle.std.proofs.Common.{map, ap}
use Rattle.ts_table_rows.specs.FilledRows.{thing_view, piece_view, gathered}
use Rattle.ts_table_rows.proofs.FillLemmas.{gather_goes_on, gather_ends}
use Rattle.ts_table_rows.proofs.filling.gather.Goals as goal

pub loop-row-init : goal.loop-row-init
loop-row-init c = ap (λ h. gathered h (map thing_view c.args.rows.now)) c.empty_piece-hand.ensures

pub loop-row-preserved : goal.loop-row-preserved
loop-row-preserved c =
    gather_goes_on (piece_view c.loop-row.hand) _ c.args.rows.now c.loop-row.row-index c.row-item.result _ c.loop-row-test.true c.row-item.is c.in_ok-put_thing.ensures c.loop-row.invariant

pub returns : goal.returns
returns c = gather_ends (piece_view c.loop-row.hand) c.args.rows.now c.loop-row.row-index _ c.loop-row-test.false c.loop-row.invariant

use Rattle.std.proofs.Common.{◌++◌, ◌∙◌, map, ap}
use Rattle.ts_table_rows.specs.FilledRows.{thing_view, piece_view, filled}
use Rattle.ts_table_rows.proofs.FillLemmas.{fill_goes_on, fill_ends}
use Rattle.ts_table_rows.proofs.filling.fill.Goals as goal

pub loop-row-init : goal.loop-row-init
loop-row-init c =
    ap (λ ps. map piece_view ps ++ filled c.args.room 0 (piece_view c.empty_piece-hand.result) (map thing_view c.args.rows.now)) c.new-pieces.ensures.items
    ∙ ap (λ h. filled c.args.room 0 h (map thing_view c.args.rows.now)) c.empty_piece-hand.ensures

pub loop-row-preserved : goal.loop-row-preserved
loop-row-preserved c =
    fill_goes_on c.args.room c.loop-row.used (piece_view c.loop-row.hand) (map piece_view c.loop-row.pieces.items) _ c.args.rows.now c.loop-row.row-index c.row-item.result (piece_view c.put_next.new.hand) c.in_ok-now.now _
    c.loop-row-test.true c.row-item.is c.in_ok-now.ensures c.loop-row.invariant

pub returns : goal.returns
returns c =
    fill_ends c.args.room c.loop-row.used c.loop-row.hand c.loop-row.pieces.items _ c.args.rows.now c.loop-row.row-index _ c.loop-row-test.false c.in_ok-push.ensures.items c.loop-row.invariant

use Rattle.std.proofs.Common.{map}
use Rattle.ts_fields.specs.Layout.{held}
use Rattle.ts_table_rows.specs.FilledRows.{piece_view, row_with}
use Rattle.ts_table_rows.specs.TablePages.{table_page}
use Rattle.ts_table_rows.proofs.FillLemmas.{map_one_more, map_all}
use Rattle.ts_table_rows.proofs.filling.pieces_bytes.Goals as goal

pub loop-piece-preserved : goal.loop-piece-preserved
loop-piece-preserved c =
    map_one_more (λ row. row.items) (row_with (table_page c.args.layout.now) (map held c.args.values.now)) piece_view c.loop-piece.rows.items _ _ c.args.pieces.now c.loop-piece.piece-index c.piece-item.result c.loop-piece-test.true c.piece-item.is
    c.in_ok-push.ensures.items c.in_ok-row.ensures c.loop-piece.invariant

pub returns : goal.returns
returns c =
    map_all (λ row. row.items) (row_with (table_page c.args.layout.now) (map held c.args.values.now)) piece_view c.loop-piece.rows.items c.args.pieces.now c.loop-piece.piece-index c.loop-piece-test.false c.loop-piece.invariant

use Rattle.std.proofs.Common.{◌≡◌, map, take}
use Rattle.ts_fields.specs.Layout.{held}
use Rattle.ts_table_rows.specs.FilledRows.{piece_view, row_with}
use Rattle.ts_table_rows.specs.TablePages.{table_page}
use Rattle.ts_table_rows.proofs.filling.pieces_bytes.Given as goal

abbrev pub invariant-loop-piece : goal.invariant-loop-piece
invariant-loop-piece l = map (λ row. row.items) l.rows.items ≡ map (row_with (table_page l.layout) (map held l.values)) (map piece_view (take l.piece-index l.pieces))

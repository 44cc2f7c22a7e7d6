use Rattle.std.proofs.Common.{◌≡◌, ◌++◌, map, drop}
use Rattle.ts_table_rows.specs.FilledRows.{thing_view, piece_view, nothing, filled}
use Rattle.ts_table_rows.proofs.filling.fill.Given as goal

abbrev pub invariant-loop-row : goal.invariant-loop-row
invariant-loop-row l = map piece_view l.pieces.items ++ filled l.room l.used (piece_view l.hand) (map thing_view (drop l.row-index l.rows)) ≡ filled l.room 0 nothing (map thing_view l.rows)

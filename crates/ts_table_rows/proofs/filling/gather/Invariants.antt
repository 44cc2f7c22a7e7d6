use Rattle.std.proofs.Common.{◌≡◌, map, drop}
use Rattle.ts_table_rows.specs.FilledRows.{thing_view, piece_view, nothing, gathered}
use Rattle.ts_table_rows.proofs.filling.gather.Given as goal

abbrev pub invariant-loop-row : goal.invariant-loop-row
invariant-loop-row l = gathered (piece_view l.hand) (map thing_view (drop l.row-index l.rows)) ≡ gathered nothing (map thing_view l.rows)

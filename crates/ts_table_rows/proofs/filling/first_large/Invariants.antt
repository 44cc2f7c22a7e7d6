use Rattle.std.proofs.Common.{◌≡◌, map, drop}
use Rattle.ts_table_rows.specs.FilledRows.{thing_view, large_row}
use Rattle.ts_table_rows.proofs.filling.first_large.Given as goal

abbrev pub invariant-loop-row : goal.invariant-loop-row
invariant-loop-row l = large_row l.room (map thing_view (drop l.row-index l.rows)) ≡ large_row l.room (map thing_view l.rows)

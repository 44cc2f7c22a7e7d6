use Rattle.std.proofs.Common.{◌≡◌, ◌+◌, drop}
use Rattle.std.specs.Prelude.{nat_le}
use Rattle.ts_fields.specs.Layout.{rows_of}
use Rattle.ts_fields.specs.SoundRows.{widths}
use Rattle.ts_table_rows.proofs.read_item.are_there.Given as goal

abbrev pub invariant-loop-field : goal.invariant-loop-field
invariant-loop-field l = nat_le (widths (rows_of (drop l.field-index l.rows)) + l.more) l.free ≡ nat_le (widths (rows_of l.rows) + l.more) l.left

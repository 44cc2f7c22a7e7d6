use Rattle.std.proofs.Common.{◌≡◌, ◌≤◌, take}
use Rattle.ts_fields.specs.Layout.{rows_of}
use Rattle.ts_table_rows.specs.BodySpelling as spelling
use Rattle.ts_table_rows.proofs.write_rows.held_count.Given as goal

abbrev pub invariant-loop-field : goal.invariant-loop-field
invariant-loop-field l = record {
  few : l.count ≤ l.field-index;
  counted : l.count ≡ spelling.held_count (rows_of (take l.field-index l.rows));
}

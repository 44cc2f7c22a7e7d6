use Rattle.std.proofs.Common.{◌≡◌, ◌≤◌, take}
use Rattle.ts_fields.specs.Layout.{rows_of}
use Rattle.ts_fields.specs.Bodies.{held_by}
use Rattle.ts_fields.proofs.body.held_count.Given as goal

abbrev pub invariant-loop-field : goal.invariant-loop-field
invariant-loop-field l = record {
  few : l.count ≤ l.field-index;
  counted : l.count ≡ held_by (rows_of (take l.field-index l.rows));
}

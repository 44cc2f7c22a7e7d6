use Rattle.std.proofs.Common.{◌≡◌, ◌≤◌, ◌++◌, drop, map}
use Rattle.std.specs.Prelude.{IsTrue}
use Rattle.ts_fields.specs.Spelling.{spell_rows}
use Rattle.ts_fields.specs.Layout.{held, row}
use Rattle.ts_fields.specs.SoundRows.{are_sound}
use Rattle.ts_fields.proofs.writer.write_rows.Given as goal

abbrev pub invariant-loop-field : goal.invariant-loop-field
invariant-loop-field l = record {
  sound : IsTrue (are_sound (map row (drop l.field-index l.rows)));
  few : l.next ≤ l.field-index;
  written : l.out ++ spell_rows (map row (drop l.field-index l.rows)) (drop l.next (map held l.values)) ≡ l.initial.out ++ spell_rows (map row l.rows) (map held l.values);
}

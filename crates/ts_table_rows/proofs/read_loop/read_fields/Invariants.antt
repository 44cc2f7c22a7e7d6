use Rattle.std.proofs.Common.{◌≡◌, drop, map}
use Rattle.std.specs.Prelude.{IsTrue}
use Rattle.ts_fields.specs.Layout.{held, rows_of}
use Rattle.ts_fields.specs.SoundRows.{are_sound}
use Rattle.ts_table_rows.specs.BodyReading as reading
use Rattle.ts_table_rows.proofs.ReadLemmas.{with_front}
use Rattle.ts_table_rows.proofs.read_loop.read_fields.Given as goal

abbrev pub invariant-loop-field : goal.invariant-loop-field
invariant-loop-field l = record {
  sound : IsTrue (are_sound (rows_of (drop l.field-index l.rows)));
  read : with_front (map held l.values.items) (reading.read_fields l.rule l.behind (rows_of (drop l.field-index l.rows)) l.rest) ≡ reading.read_fields l.rule l.behind (rows_of l.rows) l.fn.from;
}

use Rattle.std.proofs.Common.{◌≡◌, drop, map}
use Rattle.std.specs.Prelude.{IsTrue}
use Rattle.ts_fields.specs.Reading.{read_rows}
use Rattle.ts_fields.specs.Layout.{held, row}
use Rattle.ts_fields.specs.SoundRows.{are_sound}
use Rattle.ts_fields.proofs.ReadLemmas.{with_front}
use Rattle.ts_fields.proofs.reader.read_rows.Given as goal

abbrev pub invariant-loop-field : goal.invariant-loop-field
invariant-loop-field l = record {
  sound : IsTrue (are_sound (map row (drop l.field-index l.rows)));
  read : with_front (map held l.values.items) (read_rows (map row (drop l.field-index l.rows)) l.rest) ≡ read_rows (map row l.rows) l.fn.from;
}

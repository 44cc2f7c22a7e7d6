use Rattle.std.proofs.Common.{◌≡◌, drop, map}
use Rattle.std.specs.Prelude.{IsTrue}
use Rattle.serde_json.specs.View.{members_view}
use Rattle.ts_fields.specs.Layout.{held, rows_of}
use Rattle.ts_fields.specs.SoundRows.{are_sound}
use Rattle.ts_jtree.specs.Attributes as attributes
use Rattle.ts_jtree.proofs.AttributeLemmas.{with_values}
use Rattle.ts_jtree.proofs.attribute.read_attributes.Given as goal

abbrev pub invariant-loop-field : goal.invariant-loop-field
invariant-loop-field l = record {
  sound : IsTrue (are_sound (rows_of (drop l.field-index l.rows)));
  read : with_values (map held l.values.items) (attributes.read_attributes (rows_of (drop l.field-index l.rows)) (members_view l.members.entries)) ≡ attributes.read_attributes (rows_of l.rows) (members_view l.members.entries);
}

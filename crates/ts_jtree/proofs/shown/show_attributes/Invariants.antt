use Rattle.std.proofs.Common.{◌≡◌, ◌≤◌, drop, map, true}
use Rattle.serde_json.specs.View.{members_view}
use Rattle.ts_fields.specs.Layout.{held, rows_of}
use Rattle.ts_jtree.specs.Shown.{put_attributes, are_shown}
use Rattle.ts_jtree.proofs.shown.show_attributes.Given as goal

abbrev pub invariant-loop-field : goal.invariant-loop-field
invariant-loop-field l = record {
  shown : are_shown (rows_of (drop l.field-index l.rows)) (drop l.next (map held l.values)) ≡ true;
  few : l.next ≤ l.field-index;
  written : put_attributes (rows_of (drop l.field-index l.rows)) (drop l.next (map held l.values)) (members_view l.members.entries) ≡ put_attributes (rows_of l.rows) (map held l.values) (members_view l.initial.members.entries);
}

use Rattle.std.proofs.Common.{◌≡◌, drop}
use Rattle.serde_json.specs.View.{members_view}
use Rattle.ts_fields.specs.Layout.{rows_of}
use Rattle.ts_jtree.specs.Elements.{names_some}
use Rattle.ts_jtree.proofs.element.is_some_field_key.Given as goal

abbrev pub invariant-loop-field : goal.invariant-loop-field
invariant-loop-field l = names_some (rows_of (drop l.field-index l.rows)) (members_view l.members.entries) l.key ≡ names_some (rows_of l.rows) (members_view l.members.entries) l.key

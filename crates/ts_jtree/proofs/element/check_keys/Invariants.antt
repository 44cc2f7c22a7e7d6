use Rattle.std.proofs.Common.{◌≡◌}
use Rattle.serde_json.specs.View.{members_view}
use Rattle.ts_fields.specs.Layout.{rows_of}
use Rattle.ts_jtree.specs.Elements.{keys_known}
use Rattle.ts_jtree.proofs.element.check_keys.Given as goal

abbrev pub invariant-loop-key : goal.invariant-loop-key
invariant-loop-key l = keys_known (rows_of l.rows) (members_view l.members.entries) (members_view l.key-iterator) ≡ keys_known (rows_of l.rows) (members_view l.members.entries) (members_view l.members.entries)

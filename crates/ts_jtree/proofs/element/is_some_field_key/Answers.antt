use Rattle.std.proofs.Common.{sym, ◌∙◌}
use Rattle.serde_json.specs.View.{members_view}
use Rattle.ts_jtree.proofs.KeyLemmas.{named_here, named_later, named_nowhere}
use Rattle.ts_jtree.proofs.element.is_some_field_key.Goals as goal

pub returns-then-is_field_key : goal.returns-then-is_field_key
returns-then-is_field_key c = named_here c.args.rows.now c.loop-field.field-index _ (members_view c.args.members.now.entries) c.args.key.now _ c.loop-field-test.true c.loop-field.invariant (sym c.is_field_key.ensures ∙ c.if-is_field_key.true)

pub loop-field-preserved : goal.loop-field-preserved
loop-field-preserved c = named_later c.args.rows.now c.loop-field.field-index _ (members_view c.args.members.now.entries) c.args.key.now _ c.loop-field-test.true c.loop-field.invariant (sym c.is_field_key.ensures ∙ c.if-is_field_key.false)

pub returns : goal.returns
returns c = named_nowhere c.args.rows.now c.loop-field.field-index (members_view c.args.members.now.entries) c.args.key.now _ c.loop-field-test.false c.loop-field.invariant

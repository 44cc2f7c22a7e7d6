use Rattle.std.proofs.Common.{map}
use Rattle.std.specs.Prelude.{option_map}
use Rattle.std.proofs.lemmas.Result.{err_from_is_err_and}
use Rattle.serde_json.specs.View.{members_view}
use Rattle.ts_fields.specs.Layout.{held}
use Rattle.ts_jtree.proofs.RowLemmas.{sound_first, sound_more, held_more}
use Rattle.ts_jtree.proofs.AttributeLemmas.{values_go_on, values_stop, values_done}
use Rattle.ts_jtree.proofs.attribute.read_attributes.Goals as goal

pub read_attribute-requires : goal.read_attribute-requires
read_attribute-requires c = sound_first c.args.rows.now c.loop-field.field-index _ c.loop-field-test.true c.loop-field.invariant.sound

pub returns-in_err-value : goal.returns-in_err-value
returns-in_err-value c =
    let p = err_from_is_err_and c.from_residual.result c.from_residual.ensures.1 in
    rw (p.1, p.2) (values_stop c.in_err-value.field-0.0 c.args.rows.now c.loop-field.field-index _ (map held c.loop-field.values.items) (members_view c.args.members.now.entries) _ c.loop-field-test.true c.loop-field.invariant.read c.in_err-value.ensures)

pub loop-field-preserved : goal.loop-field-preserved
loop-field-preserved c = record {
  sound = sound_more c.args.rows.now c.loop-field.field-index c.loop-field-test.true c.loop-field.invariant.sound;
  read =
      rw (held_more c.loop-field.values.items c.add.new.values.items c.in_ok-value.value c.in_ok-add.ensures)
      (values_go_on c.args.rows.now c.loop-field.field-index _ (map held c.loop-field.values.items) (members_view c.args.members.now.entries) (option_map held c.in_ok-value.value) _ c.loop-field-test.true c.in_ok-value.ensures c.loop-field.invariant.read);
}

pub returns : goal.returns
returns c = values_done c.args.rows.now c.loop-field.field-index (map held c.loop-field.values.items) (members_view c.args.members.now.entries) _ c.loop-field-test.false c.loop-field.invariant.read

use Rattle.std.proofs.Common.{◌+◌, map, ap}
use Rattle.std.specs.Prelude.{option_map}
use Rattle.ts_fields.specs.Layout.{held}
use Rattle.ts_table_rows.proofs.ReadLemmas.{fields_go_on, fields_stop, fields_done, sound_first, sound_more, held_more}
use Rattle.ts_table_rows.proofs.read_loop.read_fields.Goals as goal

pub read_field-requires : goal.read_field-requires
read_field-requires c = sound_first c.args.rows.now c.loop-field.field-index _ c.loop-field-test.true c.loop-field.invariant.sound

pub returns-in-Err : goal.returns-in-Err
returns-in-Err c =
    fields_stop c.in-Err.stop c.stop_at.result c.args.rule c.args.behind _ c.args.rows.now c.loop-field.field-index _ (map held c.loop-field.values.items) c.loop-field.rest _ c.loop-field-test.true
    (ap (λ n. n + c.args.behind) c.len.ensures.left) c.stop_at.ensures c.loop-field.invariant.read c.in-Err.ensures

pub loop-field-preserved : goal.loop-field-preserved
loop-field-preserved c = record {
  sound = sound_more c.args.rows.now c.loop-field.field-index c.loop-field-test.true c.loop-field.invariant.sound;
  read =
      rw (held_more c.loop-field.values.items c.add.new.values.items c.in-Ok.read.0 c.in_ok-add.ensures)
      (fields_go_on c.args.rule c.args.behind c.args.rows.now c.loop-field.field-index _ (map held c.loop-field.values.items) c.loop-field.rest (option_map held c.in-Ok.read.0) c.in-Ok.read.1 _ c.loop-field-test.true c.in-Ok.ensures c.loop-field.invariant.read);
}

pub returns : goal.returns
returns c = fields_done c.args.rule c.args.behind c.args.rows.now c.loop-field.field-index (map held c.loop-field.values.items) c.loop-field.rest _ c.loop-field-test.false c.loop-field.invariant.read

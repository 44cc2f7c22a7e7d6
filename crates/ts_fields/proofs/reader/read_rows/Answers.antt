use Rattle.std.proofs.Common.{◌≡◌, [], drop, map, sym, ap, ◌∙◌}
use Rattle.std.proofs.lemmas.Result.{err_from_is_err_and}
use Rattle.ts_fields.specs.Layout.{row, held}
use Rattle.ts_fields.proofs.ReadLemmas.{rows_none, held_more, with_front, rows_go_on, rows_stop_at, sound_more}
use Rattle.std.specs.Prelude.{option_map}
use Rattle.ts_fields.specs.Reading.{read_rows}
use Rattle.std.proofs.lemmas.List.{drop_all}
use Rattle.ts_fields.proofs.reader.read_rows.Goals as goal

pub returns-in_err-value : goal.returns-in_err-value
returns-in_err-value c =
    let p = err_from_is_err_and c.from_residual.result c.from_residual.ensures.1 in
    rw (p.1, p.2) (rows_stop_at c.in_err-value.field-0.0 c.args.rows.now c.loop-field.field-index _ (map held c.loop-field.values.items) c.loop-field.rest _ c.loop-field-test.true c.loop-field.invariant.read c.in_err-value.ensures)

pub loop-field-preserved : goal.loop-field-preserved
loop-field-preserved c = record {
  sound = sound_more c.args.rows.now c.loop-field.field-index c.loop-field-test.true c.loop-field.invariant.sound;
  read =
      rw (held_more c.loop-field.values.items c.add.new.values.items c.in_ok-value.value c.in_ok-add.ensures)
      (rows_go_on c.args.rows.now c.loop-field.field-index _ (map held c.loop-field.values.items) c.loop-field.rest (option_map held c.in_ok-value.value) c.in_ok-value.after _ c.loop-field-test.true c.in_ok-value.ensures c.loop-field.invariant.read);
}

pub returns : goal.returns
returns c =
    let none : map row (drop c.loop-field.field-index c.args.rows.now) ≡ [] = ap (map row) (drop_all c.loop-field.field-index c.args.rows.now c.loop-field-test.false) in
    sym c.loop-field.invariant.read ∙ ap (λ rs. with_front (map held c.loop-field.values.items) (read_rows rs c.loop-field.rest)) none
    ∙ rows_none (map held c.loop-field.values.items) c.loop-field.rest

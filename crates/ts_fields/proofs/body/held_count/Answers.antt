use Rattle.std.proofs.Common.{arith, ◌+◌, ap, ◌∙◌}
use Rattle.ts_fields.specs.Layout.{rows_of}
use Rattle.ts_fields.specs.Bodies.{held_by}
use Rattle.std.proofs.lemmas.List.{take_all}
use Rattle.ts_fields.proofs.LoopLemmas.{held_by_more}
use Rattle.ts_fields.proofs.body.held_count.Goals as goal

pub loop-field-preserved : goal.loop-field-preserved
loop-field-preserved c = record {
  few = omega (arith, c.holds-count.ensures.few, c.loop-field.invariant.few);
  counted = ap (λ n. c.loop-field.count + n) c.holds-count.ensures.value ∙ held_by_more c.args.rows.now c.loop-field.field-index c.loop-field.count _ c.loop-field-test.true c.loop-field.invariant.counted;
}

pub returns-clause-count : goal.returns-clause-count
returns-clause-count c = c.loop-field.invariant.counted ∙ ap (λ fs. held_by (rows_of fs)) (take_all c.loop-field.field-index c.args.rows.now c.loop-field-test.false)

use Rattle.std.proofs.Common.{arith}
use Rattle.ts_table_rows.proofs.WriteLemmas.{count_more, count_all}
use Rattle.ts_table_rows.proofs.write_rows.held_count.Goals as goal

pub loop-field-preserved : goal.loop-field-preserved
loop-field-preserved c = record {
  few = omega (arith, c.holds-count.ensures.few, c.loop-field.invariant.few);
  counted = count_more c.args.rows.now c.loop-field.field-index _ c.loop-field.count c.holds-count.result c.loop-field-test.true c.loop-field.invariant.counted c.holds-count.ensures.value;
}

pub returns-clause-count : goal.returns-clause-count
returns-clause-count c = count_all c.args.rows.now c.loop-field.field-index c.loop-field.count c.loop-field-test.false c.loop-field.invariant.counted

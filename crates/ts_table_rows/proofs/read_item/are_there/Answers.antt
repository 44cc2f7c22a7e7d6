use Rattle.ts_table_rows.proofs.ItemLemmas.{width_gone, width_taken, widths_done}
use Rattle.ts_table_rows.proofs.read_item.are_there.Goals as goal

pub returns-then-free-width : goal.returns-then-free-width
returns-then-free-width c = width_gone c.args.rows.now c.loop-field.field-index _ c.width-width.result c.args.more c.loop-field.free _ c.loop-field-test.true c.width-width.ensures c.if-free-width.true c.loop-field.invariant

pub loop-field-preserved : goal.loop-field-preserved
loop-field-preserved c = width_taken c.args.rows.now c.loop-field.field-index _ c.width-width.result c.args.more c.loop-field.free _ c.loop-field-test.true c.width-width.ensures c.if-free-width.false c.loop-field.invariant

pub returns : goal.returns
returns c = widths_done c.args.rows.now c.loop-field.field-index c.args.more c.loop-field.free _ c.loop-field-test.false c.loop-field.invariant

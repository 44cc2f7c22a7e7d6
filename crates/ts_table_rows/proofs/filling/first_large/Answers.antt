use Rattle.std.proofs.Common.{arith}
use Rattle.ts_table_rows.proofs.FillLemmas.{large_here, large_later, large_none}
use Rattle.ts_table_rows.proofs.filling.first_large.Goals as goal

pub returns-then-room-size : goal.returns-then-room-size
returns-then-room-size c =
    large_here c.args.room _ c.args.rows.now c.loop-row.row-index c.row-item.result _ c.loop-row-test.true c.row-item.is (omega (arith, c.len-size.ensures)) c.if-room-size.true c.loop-row.invariant

pub loop-row-preserved : goal.loop-row-preserved
loop-row-preserved c =
    large_later c.args.room c.len-size.result c.args.rows.now c.loop-row.row-index c.row-item.result _ c.loop-row-test.true c.row-item.is (omega (arith, c.len-size.ensures)) c.if-room-size.false c.loop-row.invariant

pub returns : goal.returns
returns c = large_none c.args.room c.args.rows.now c.loop-row.row-index _ c.loop-row-test.false c.loop-row.invariant

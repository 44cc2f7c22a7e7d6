use Rattle.std.proofs.Common.{◌-◌}
use Rattle.ts_fields.proofs.WriteLemmas.{decimal_more, decimal_done, ten_pos}
use Rattle.ts_fields.proofs.writer.BitWriter.put_decimal.Goals as goal

pub nonzero_div-digit : goal.nonzero_div-digit
nonzero_div-digit c = rw c.pow.ensures (ten_pos (c.args.digits - 1 - c.loop-i.i))

pub loop-i-preserved : goal.loop-i-preserved
loop-i-preserved c = decimal_more c.args.self.now c.loop-i.self c.put.new.self c.loop-i.i c.args.digits c.args.value c.pow.result c.loop-i-test.true c.pow.ensures c.loop-i.invariant c.in_ok-put.ensures

pub returns : goal.returns
returns c = decimal_done c.args.self.now c.loop-i.self c.loop-i.i c.args.digits c.args.value c.loop-i-test.false c.loop-i.invariant

use Rattle.std.proofs.Common.{arith, pow-suc, add-one}
use Rattle.ts_fields.proofs.ReadLemmas.{digits_go_on, digits_end, digits_break, digits_done}
use Rattle.ts_fields.proofs.reader.BitReader.decimal.Goals as goal

pub returns-in_err-digit : goal.returns-in_err-digit
returns-in_err-digit c =
    rw c.from_residual.ensures (digits_end c.loop.number c.args.digits c.loop.counter c.loop.rest _ c.loop-test.true c.in_err-digit.ensures c.loop.invariant.read)

pub returns-then-digit-gt9 : goal.returns-then-digit-gt9
returns-then-digit-gt9 c = digits_break c.loop.number c.args.digits c.loop.counter c.loop.rest c.in_ok-digit.digit c.in_ok-digit.after _ c.loop-test.true c.if-digit-gt9.true c.in_ok-digit.ensures c.loop.invariant.read

pub loop-preserved : goal.loop-preserved
loop-preserved c = record {
  small = rw (add-one, pow-suc) (omega arith);
  read = digits_go_on c.loop.number c.args.digits c.loop.counter c.loop.rest c.in_ok-digit.digit c.in_ok-digit.after _ c.loop-test.true c.if-digit-gt9.false c.in_ok-digit.ensures c.loop.invariant.read;
}

pub returns : goal.returns
returns c = digits_done c.loop.number c.args.digits c.loop.counter c.loop.rest _ c.loop-test.false c.loop.invariant.read

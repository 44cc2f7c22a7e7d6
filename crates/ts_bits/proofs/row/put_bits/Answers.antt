use Rattle.std.proofs.Common.{◌≡◌, ◌-◌, ◌/◌, ◌^◌, arith}
use Rattle.std.proofs.lemmas.Nat.Bits.{shr_and_one}
use Rattle.ts_bits.proofs.Writes.{sets_none, sets_more, same_bit, none_left, all_read}
use Rattle.ts_bits.proofs.row.put_bits.Goals as goal

pub loop-i-init : goal.loop-i-init
loop-i-init c = sets_none c.args.into.now c.args.at (c.args.value / 2 ^ (c.args.count - 0)) (none_left c.args.value c.args.count c.requires.fits)

pub loop-i-preserved : goal.loop-i-preserved
loop-i-preserved c =
    sets_more c.args.into.now c.loop-i.into c.put_bit.new.into c.args.at c.args.count c.loop-i.i c.args.value c.loop-i-test.true c.loop-i.invariant
    (rw (same_bit c.args.at c.loop-i.i, shr_and_one c.args.value (c.args.count - 1 - c.loop-i.i)) at c.put_bit.ensures)

pub returns-clause-written : goal.returns-clause-written
returns-clause-written c =
    let all : c.loop-i.i ≡ c.args.count = omega arith in
    rw (all_read c.args.value c.args.count c.loop-i.i all, all) at c.loop-i.invariant

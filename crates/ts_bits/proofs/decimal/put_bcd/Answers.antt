use Rattle.ts_bits.proofs.Digits.{sets_decimal}
use Rattle.ts_bits.proofs.decimal.put_bcd.Goals as goal

pub returns-clause-written : goal.returns-clause-written
returns-clause-written c =
    sets_decimal c.args.into.now c.put_bits.new.into c.args.at c.args.digits c.args.value c.packed_digits.result c.put_bits.result c.packed_digits.ensures.digits c.requires.fits c.put_bits.ensures.written

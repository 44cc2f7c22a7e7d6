use Rattle.ts_bits.proofs.Writes.{sets_bit}
use Rattle.ts_bits.proofs.row.put_bit.Goals as goal

pub returns : goal.returns
returns c = sets_bit c.args.into.now c.args.index c.args.place c.args.bit c.requires.there c.requires.in_byte c.requires.one_bit

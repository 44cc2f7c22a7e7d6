use Rattle.std.proofs.Common.{arith}
use Rattle.ts_bits.proofs.MaskedBits.{field-masked}
use Rattle.ts_bits.proofs.row.bits.Goals as goal

pub returns-clause-read : goal.returns-clause-read
returns-clause-read c =
    field-masked c.args.from.now c.args.at c.args.count c.div_ceil-size.result c.whole_number-wide.result c.whole_number-wide.ensures (omega arith) (omega arith) c.requires

use Rattle.std.proofs.Common.{arith}
use Rattle.ts_eit.proofs.TimeLemmas.{time_is}
use Rattle.ts_eit.proofs.times.time_bits.Goals as goal

pub returns-clause-valid : goal.returns-clause-valid
returns-clause-valid c =
    time_is 99 c.from-seconds.result c.pair_bits.result c.pair_bits-2.result c.pair_bits-3.result (omega arith) (omega (arith, c.requires, c.from-seconds.ensures))
    c.pair_bits.ensures.bits c.pair_bits-2.ensures.bits c.pair_bits-3.ensures.bits

pub returns-clause-of_day : goal.returns-clause-of_day
returns-clause-of_day c = λ day.
    time_is 23 c.from-seconds.result c.pair_bits.result c.pair_bits-2.result c.pair_bits-3.result (omega arith) (omega (arith, day, c.from-seconds.ensures))
    c.pair_bits.ensures.bits c.pair_bits-2.ensures.bits c.pair_bits-3.ensures.bits

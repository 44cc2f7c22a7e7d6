use Rattle.std.proofs.Common.{◌%◌, ◌/◌, arith}
use Rattle.ts_eit.proofs.TimeLemmas.{pair_wider, time_again, time_of}
use Rattle.ts_eit.proofs.times.time_value.Goals as goal

pub pair_value-hours-requires : goal.pair_value-hours-requires
pair_value-hours-requires c = (time_of 99 c.args.bits c.requires).hour

pub pair_value-minutes-requires : goal.pair_value-minutes-requires
pair_value-minutes-requires c = pair_wider (c.args.bits / 256 % 256) (time_of 99 c.args.bits c.requires).minute

pub pair_value-seconds-requires : goal.pair_value-seconds-requires
pair_value-seconds-requires c = pair_wider (c.args.bits % 256) (time_of 99 c.args.bits c.requires).second

pub returns-clause-bits : goal.returns-clause-bits
returns-clause-bits c =
    time_again c.pair_value-hours.result c.pair_value-minutes.result c.pair_value-seconds.result c.args.bits
    (omega (arith, c.pair_value-minutes.ensures.most 59 (time_of 99 c.args.bits c.requires).minute))
    (omega (arith, c.pair_value-seconds.ensures.most 59 (time_of 99 c.args.bits c.requires).second))
    c.pair_value-hours.ensures.bits c.pair_value-minutes.ensures.bits c.pair_value-seconds.ensures.bits

pub returns-clause-most : goal.returns-clause-most
returns-clause-most c =
    omega (arith, c.pair_value-hours.ensures.below, c.pair_value-minutes.ensures.most 59 (time_of 99 c.args.bits c.requires).minute, c.pair_value-seconds.ensures.most 59 (time_of 99 c.args.bits c.requires).second)

pub returns-clause-of_day : goal.returns-clause-of_day
returns-clause-of_day c = λ day.
    omega (arith, c.pair_value-hours.ensures.most 23 (time_of 23 c.args.bits day).hour, c.pair_value-minutes.ensures.most 59 (time_of 23 c.args.bits day).minute, c.pair_value-seconds.ensures.most 59 (time_of 23 c.args.bits day).second)

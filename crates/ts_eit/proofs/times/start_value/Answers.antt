use Rattle.std.proofs.Common.{◌%◌}
use Rattle.ts_eit.proofs.TimeLemmas.{start_time, time_wider}
use Rattle.ts_eit.proofs.times.start_value.Goals as goal

pub time_value-requires : goal.time_value-requires
time_value-requires c = time_wider (c.args.bits % 0x1000000) (start_time c.args.bits c.if-bits-eq-UNDEFINED.false c.requires.valid)

pub invariant_of-result : goal.invariant_of-result
invariant_of-result c = record { in_range = c.time_value.ensures.of_day (start_time c.args.bits c.if-bits-eq-UNDEFINED.false c.requires.valid) }

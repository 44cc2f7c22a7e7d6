use Rattle.ts_eit.proofs.TimeLemmas.{start_valid, undefined_valid}
use Rattle.ts_eit.proofs.times.start_bits.Goals as goal

pub returns-in-Some-clause-valid : goal.returns-in-Some-clause-valid
returns-in-Some-clause-valid c = start_valid c.from.result c.time_bits.result c.time_bits.ensures.small (c.time_bits.ensures.of_day c.in-Some.start.in_range)

pub returns-in-None-clause-valid : goal.returns-in-None-clause-valid
returns-in-None-clause-valid c = undefined_valid

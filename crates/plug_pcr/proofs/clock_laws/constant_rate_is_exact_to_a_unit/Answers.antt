use Rattle.std.proofs.Common.{◌<◌, ◌+◌, arith}
use Rattle.plug_clock.specs.ClockUnits.{clock_at}
use Rattle.plug_pcr.proofs.ConstantRate.{at_most_one, goes_on, one_over, units_over}
use Rattle.plug_pcr.proofs.clock_laws.constant_rate_is_exact_to_a_unit.Goals as goal

pub returns : goal.returns
returns c = λ bitrate start before packets some.
    let positive : 0 < bitrate = omega (arith, some) in
    at_most_one _ (units_over bitrate before packets)
    (c.jitter_is_the_least_change.ensures.least_on bitrate packets (clock_at bitrate start before) (clock_at bitrate start (before + packets)) (units_over bitrate before packets)
    (goes_on bitrate start before packets positive))
    (one_over bitrate before packets positive)

use Rattle.std.proofs.Common.{arith}
use Rattle.plug_clock.proofs.OnRate.{least_time, most_time}
use Rattle.plug_clock.proofs.stream_clock_laws.constant_rate_has_the_time_of_its_positions.Goals as goal

pub returns-clause-least : goal.returns-clause-least
returns-clause-least c = λ bitrate start asked first rows some has same keep.
    least_time bitrate start asked first rows (omega (arith, some)) has same keep

pub returns-clause-most : goal.returns-clause-most
returns-clause-most c = λ bitrate start asked first rows some has same keep.
    most_time bitrate start asked first rows (omega (arith, some)) has same keep

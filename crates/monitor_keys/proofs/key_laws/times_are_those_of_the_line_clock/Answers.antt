use Rattle.monitor_keys.proofs.LineTimes.{time-is}
use Rattle.monitor_keys.proofs.key_laws.times_are_those_of_the_line_clock.Goals as goal

pub returns : goal.returns
returns c = λ pid history packet labels n is begun le. time-is pid history packet labels n is begun le

-- Valid settings of `time`. This project's own rule.
use Rattle.std.specs.Prelude.{◌≤ℤ◌}
use Rattle.plug_time.specs.declared.numbers.TheConstants.{LEAST_SHIFT, MOST_SHIFT}
use Rattle.plug_time.specs.declared.time_conf.TimeConf.{TimeConf}

-- the seconds lie in their range
pub record IsValidTime (c : TimeConf) : Type 0 where
  pub least : LEAST_SHIFT ≤ℤ c.shift
  pub most : c.shift ≤ℤ MOST_SHIFT

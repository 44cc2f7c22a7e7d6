-- Valid settings of `rate`. This project's own rule.
use Rattle.std.specs.Prelude.{◌≡◌, ◌≤◌, ℕ, IfSome, Option, true}
use Rattle.ts_packet.specs.declared.numbers.TheConstants.{PID_COUNT}
use Rattle.plugin_options.specs.declared.limits.TheConstants.{LAST_PID, MOST_NUMBER}
use Rattle.plugin_options.specs.NumberSet.{AllBelow}
use Rattle.plug_rate.specs.Bounds.{are_in_order}
use Rattle.plug_rate.specs.declared.limits.TheConstants.{LEAST_INTERVAL, MOST_INTERVAL}
use Rattle.plug_rate.specs.declared.rate_conf.RateConf.{RateConf}

-- a number that is given is at most this one
abbrev pub IsAtMost : ℕ → Option ℕ → Type 0
IsAtMost most n = IfSome n (λ k. k ≤ most)

-- each number is in its range, and the least rate is not above the greatest
pub record IsValidRate (c : RateConf) : Type 0 where
  pub least_interval : LEAST_INTERVAL ≤ c.interval
  pub most_interval : c.interval ≤ MOST_INTERVAL
  pub pids : AllBelow PID_COUNT c.pid
  pub least : IsAtMost MOST_NUMBER c.bounds.least
  pub most : IsAtMost MOST_NUMBER c.bounds.most
  pub of_pid : IsAtMost LAST_PID c.pcr_pid
  pub in_order : are_in_order c.bounds ≡ true

-- Valid settings of `monitor`. This project's own rule.
use Rattle.std.specs.Prelude.{◌≤◌, ℕ, IfSome, Option}
use Rattle.plugin_options.specs.declared.limits.TheConstants.{LAST_PID}
use Rattle.plug_monitor.specs.declared.limits.TheConstants.{MOST_BITRATE, MOST_PID_GAP, MOST_PRIORITY}
use Rattle.plug_monitor.specs.declared.monitor_conf.MonitorConf.{MonitorConf}

-- a number that is given is within these bounds
abbrev pub IsWithin : ℕ → ℕ → Option ℕ → Type 0
IsWithin least most n = IfSome n (λ k. (least ≤ k) × (k ≤ most))

-- each number is in its range
pub record IsValidMonitor (c : MonitorConf) : Type 0 where
  pub some_priority : 1 ≤ c.priority
  pub priority : c.priority ≤ MOST_PRIORITY
  pub bitrate : IsWithin 1 MOST_BITRATE c.bitrate
  pub some_gap : 1 ≤ c.pid_gap
  pub gap : c.pid_gap ≤ MOST_PID_GAP
  pub of_pid : IsWithin 0 LAST_PID c.pcr_pid

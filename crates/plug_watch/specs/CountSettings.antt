-- Valid settings of `count`.
-- This project's own rule.
use Rattle.ts_packet.specs.declared.numbers.TheConstants.{PID_COUNT}
use Rattle.plugin_options.specs.NumberSet.{AllBelow}
use Rattle.plug_watch.specs.declared.count_conf.CountConf.{CountConf}

-- the PIDs are in their range
pub record IsValidCount (c : CountConf) : Type 0 where
  pub pids : AllBelow PID_COUNT c.pid

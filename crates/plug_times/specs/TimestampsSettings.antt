-- Valid settings of `timestamps`. This project's own rule.
use Rattle.ts_packet.specs.declared.numbers.TheConstants.{PID_COUNT}
use Rattle.plugin_options.specs.NumberSet.{AllBelow}
use Rattle.plug_times.specs.declared.timestamps_conf.TimestampsConf.{TimestampsConf}

-- the PIDs are in their range
pub record IsValidTimestamps (c : TimestampsConf) : Type 0 where
  pub pids : AllBelow PID_COUNT c.pid

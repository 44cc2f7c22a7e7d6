-- Valid settings of `continuity`.
-- This project's own rule.
use Rattle.ts_packet.specs.declared.numbers.TheConstants.{PID_COUNT}
use Rattle.plugin_options.specs.NumberSet.{AllBelow}
use Rattle.plugin_notes.specs.declared.continuity_conf.ContinuityConf.{ContinuityConf}

-- the PIDs are in their range
pub record IsValidContinuity (c : ContinuityConf) : Type 0 where
  pub pids : AllBelow PID_COUNT c.pid

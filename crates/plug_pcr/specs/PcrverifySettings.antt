-- Valid settings of `pcrverify`. This project's own rule.
use Rattle.std.specs.Prelude.{◌≤◌}
use Rattle.ts_packet.specs.declared.numbers.TheConstants.{PID_COUNT}
use Rattle.plugin_options.specs.NumberSet.{AllBelow}
use Rattle.plug_pcr.specs.declared.limits.TheConstants.{MOST_BITRATE, MOST_JITTER}
use Rattle.plug_pcr.specs.declared.pcrverify_conf.PcrverifyConf.{PcrverifyConf}

-- the bit rate, the jitter and the PIDs are in their ranges
pub record IsValidPcrverify (c : PcrverifyConf) : Type 0 where
  pub some_rate : 1 ≤ c.bitrate
  pub rate : c.bitrate ≤ MOST_BITRATE
  pub jitter : c.jitter_max ≤ MOST_JITTER
  pub pids : AllBelow PID_COUNT c.pid

-- What a value of `slice` keeps. This project's own rule.
use Rattle.std.specs.Prelude.{◌≡◌, ◌≤◌, List, length}
use Rattle.std.specs.Bool.{OnTrue}
use Rattle.ts_packet.specs.declared.cell.Cell.{Cell}
use Rattle.plugin_trait.specs.LiveCount.{live_count}
use Rattle.plug_clock.specs.StreamClock.{clock_after}
use Rattle.plug_clock.specs.declared.stream_clock.StreamClock.{StreamClock}
use Rattle.plug_pass.specs.declared.slice_conf.SliceConf.{SliceConf}
use Rattle.plug_pass.specs.declared.slice.SliceSteps.{SliceSteps}

-- the settings of the plugin
abbrev pub conf_of : SliceSteps → SliceConf
conf_of s = record {
  drop = s.drop;
  null = s.null;
  pass = s.pass;
  stop = s.stop;
  milliseconds = s.milliseconds;
  pcr_pid = s.pcr_pid;
}

-- where the numbers are milliseconds, the clock that is kept is that of the history
abbrev pub IsClock : SliceConf → StreamClock → List Cell → Type 0
IsClock conf clock history = OnTrue conf.milliseconds (clock ≡ clock_after conf.pcr_pid history)

-- the packets and the clock that are kept are those of the history
pub record Sliced (s : SliceSteps) (history : List Cell) : Type 0 where
  pub packets : s.met ≡ live_count history
  pub few_packets : s.met ≤ length history
  pub clocked : IsClock (conf_of s) s.clock history

-- What is kept of all packets, and the cells that it stands for. This project's own rule.
use Rattle.std.specs.Prelude.{◌≡◌, List, Option, None, Some, true, false}
use Rattle.ts_packet.specs.declared.cell.Cell.{Cell}
use Rattle.ts_packet.specs.Cells.{live_packets}
use Rattle.plug_clock.specs.StreamClock.{clock_after}
use Rattle.plug_psi.specs.ReferredStands.{StandsFor}
use Rattle.monitor_priorities.specs.RowsStand.{HasFirst, HasSecond, HasThird, MeetsSecond}
use Rattle.monitor_priorities.specs.declared.second_rows.SecondRows.{SecondRows}
use Rattle.monitor_priorities.specs.declared.third_rows.ThirdRows.{ThirdRows}
use Rattle.plug_monitor.specs.MonitorErrors.{gap_units, is_asked}
use Rattle.plug_monitor.specs.declared.monitor_conf.MonitorConf.{MonitorConf}
use Rattle.plug_monitor.specs.declared.watch.Watch.{Watch}

-- the rows of a priority are kept where it is asked for
abbrev pub HasSecondIf : MonitorConf → Option SecondRows → List Cell → Type 0
HasSecondIf conf None history = is_asked conf 2 ≡ false
HasSecondIf conf (Some rows) history = (is_asked conf 2 ≡ true) × HasSecond conf.bitrate conf.pcr_pid rows history

abbrev pub HasThirdIf : MonitorConf → Option ThirdRows → List Cell → Type 0
HasThirdIf conf None history = is_asked conf 3 ≡ false
HasThirdIf conf (Some rows) history = (is_asked conf 3 ≡ true) × HasThird conf.pcr_pid rows history

-- those of priority 2, where they are kept, can meet a packet
abbrev pub MeetsSecondIf : Option SecondRows → Type 0
MeetsSecondIf None = Unit {0}
MeetsSecondIf (Some rows) = MeetsSecond rows

-- clock, tables in force and rows are those of the cells met
pub record IsWatching (conf : MonitorConf) (watch : Watch) (history : List Cell) : Type 0 where
  pub clocked : watch.clock ≡ clock_after conf.pcr_pid history
  pub referred : StandsFor watch.referred (live_packets history)
  pub first : HasFirst (gap_units conf) conf.pcr_pid watch.first history
  pub second : HasSecondIf conf watch.second history
  pub third : HasThirdIf conf watch.third history

-- a packet can be met
abbrev pub MeetsSome : Watch → Type 0
MeetsSome watch = MeetsSecondIf watch.second

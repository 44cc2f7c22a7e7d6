-- What a value of `until` keeps. This project's own rule.
use Rattle.std.specs.Prelude.{◌≡◌, ◌≤◌, ℕ, List, [], length, Bool, false, not, ◌&&◌, IfSome}
use Rattle.ts_packet.specs.declared.cell.Cell.{Cell}
use Rattle.plugin_trait.specs.LiveCount.{live_count}
use Rattle.plug_end.specs.declared.until_conf.UntilConf.{UntilConf}
use Rattle.plug_clock.specs.StreamClock.{clock_after}
use Rattle.plug_clock.specs.declared.stream_clock.StreamClock.{StreamClock}
use Rattle.plug_end.specs.UntilRule.{is_reached, unit_starts, until_rule}
use Rattle.plug_end.specs.declared.until.Until.{Until}

-- the settings of the plugin
abbrev pub conf_of : Until → UntilConf
conf_of s = record {
  packets = s.packets;
  bytes = s.bytes;
  unit_start_count = s.unit_start_count;
  seconds = s.seconds;
  pcr_pid = s.pcr_pid;
  exclude_last = s.exclude_last;
  joint_termination = s.joint_termination;
}

-- where seconds are given, the clock that is kept is that of the history
abbrev pub IsClock : UntilConf → StreamClock → List Cell → Type 0
IsClock conf clock history = IfSome conf.seconds (λ seconds. clock ≡ clock_after conf.pcr_pid history)

-- the list ends with the last of these cells: a number is reached, and the end is no joint one
abbrev pub ends_at : UntilConf → List Cell → Bool
ends_at conf cells = not conf.joint_termination && is_reached conf cells

-- the numbers that are kept are those of the history, and nothing is reached before a cell is met
pub record Counts (conf : UntilConf) (met starts : ℕ) (clock : StreamClock) (history : List Cell) (mark : ℕ) : Type 0 where
  pub packets : met ≡ live_count history
  pub unit_starts_met : starts ≡ unit_starts history
  pub clocked : IsClock conf clock history
  pub few_packets : met ≤ length history
  pub few_starts : starts ≤ length history
  pub marked : mark ≤ length history
  pub open_at_first : (until_rule conf).agrees [] ≡ false

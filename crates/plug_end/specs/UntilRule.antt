-- The rule of `until`. This project's own rule, over the header of ISO/IEC 13818-1, 2.4.3.2.
use Rattle.std.specs.Prelude.{ℕ, ◌*◌, List, [], ◌∷◌, ◌++◌, Bool, false, Option, None, Some, ◌&&◌, ◌||◌, nat_le, count_by, if◌then◌else◌}
use Rattle.ts_packet.specs.declared.cell.Cell.{Cell}
use Rattle.ts_packet.specs.Cells.{Live, live_packets}
use Rattle.ts_packet.specs.declared.numbers.TheConstants.{PACKET_SIZE}
use Rattle.ts_packet.specs.Header.{unit_start_of}
use Rattle.chain_model.specs.PluginRule.{PluginRule, RuleOutcome, passes, lasts, stops}
use Rattle.plugin_trait.specs.LiveCount.{live_count}
use Rattle.plugin_trait.specs.SilentRule.{silent_rule}
use Rattle.plug_clock.specs.StreamClock.{has_seconds, step_time}
use Rattle.plug_end.specs.declared.until_conf.UntilConf.{UntilConf}

-- how many of the packets have their unit start indicator
abbrev pub unit_starts : List Cell → ℕ
unit_starts cells = count_by unit_start_of (live_packets cells)

-- a number that is given is reached
abbrev pub reaches : ℕ → Option ℕ → Bool
reaches count None = false
reaches count (Some least) = nat_le least count

-- a number of packets, of their bytes or of their unit starts that is given is reached by so many packets with so many starts
abbrev pub is_counted : UntilConf → ℕ → ℕ → Bool
is_counted conf met starts =
    reaches met conf.packets || (reaches (PACKET_SIZE * met) conf.bytes || reaches starts conf.unit_start_count)

-- there is a packet, and so many seconds as are given have passed
abbrev pub is_time : Option ℕ → ℕ → ℕ → Bool
is_time None met time = false
is_time (Some seconds) met time = nat_le 1 met && has_seconds seconds time

-- seconds are given, there is a packet among the cells, and so many seconds have passed by the stream's clock
abbrev pub is_time_of : UntilConf → List Cell → Bool
is_time_of conf cells = is_time conf.seconds (live_count cells) (step_time conf.pcr_pid cells)

-- the packets, their bytes, their unit starts or the seconds of the stream's clock are as many as is given
abbrev pub is_reached : UntilConf → List Cell → Bool
is_reached conf cells = is_counted conf (live_count cells) (unit_starts cells) || is_time_of conf cells

-- what becomes of a packet with which the number is reached: it passes like any other where the end is
-- a joint one, and else it is the last, or is left out
abbrev pub outcome_at_end : UntilConf → List ℕ → RuleOutcome
outcome_at_end conf packet =
    if conf.joint_termination then passes packet else if conf.exclude_last then stops else lasts packet

-- what becomes of a packet after a history: it passes, or the number is reached with it
abbrev pub until_outcome : UntilConf → List Cell → List ℕ → ℕ → RuleOutcome
until_outcome conf history packet labels =
    if is_reached conf (history ++ Live packet labels ∷ []) then outcome_at_end conf packet else passes packet

-- packets pass until the number is reached with one; where the end is a joint one, every packet passes,
-- and the plugin agrees to end wherever the number is reached
abbrev pub until_rule : UntilConf → PluginRule
until_rule conf = record (silent_rule (λ _ packet. passes packet)) {
  outcome_of = until_outcome conf;
  agrees = λ history. conf.joint_termination && is_reached conf history;
}

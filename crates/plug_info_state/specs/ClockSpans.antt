-- What is kept of the PCRs of each PID. This project's own rule.
use Rattle.std.specs.Prelude.{◌≡◌, ◌<◌, ℕ, ◌+◌, ◌-◌, List, Bool, ◌&&◌, ◌^◌, Option, None, Some, nat_lt, option_map, if◌then◌else◌}
use Rattle.std.specs.List.{slice_index_or}
use Rattle.ts_packet.specs.declared.cell.Cell.{Cell}
use Rattle.ts_packet.specs.declared.numbers.TheConstants.{PID_COUNT}
use Rattle.ts_packet.specs.MetRows.{Met}
use Rattle.ts_packet.specs.Pcr.{clock_of}
use Rattle.plug_clock.specs.ClockUnits.{units_after}
use Rattle.plug_info_state.specs.PacketExtent.{last_row}
use Rattle.plug_info_state.specs.PcrRate.{breaks_in, has_part, positions_in, sound_clocks_on, units_in, ways_of}
use Rattle.plug_info_state.specs.declared.clock_span.ClockSpan.{ClockSpan}
use Rattle.plug_info_state.specs.declared.clock_span.MetClock.{MetClock}
use Rattle.plug_info_state.specs.declared.spans.Spans.{Spans}

-- what the way from the last PCR to the next one adds: its positions and units, or one break; nothing before the first
abbrev pub way_parts : Option MetClock → MetClock → Bool → ℕ × ℕ × ℕ
way_parts None met breaks = (0, 0, 0)
way_parts (Some last) met breaks =
    if has_part breaks (units_after last.clock met.clock)
    then (met.at - last.at, units_after last.clock met.clock, 0)
    else (0, 0, 1)

-- what is kept after one more PCR
abbrev pub span_with : ClockSpan → MetClock → Bool → ClockSpan
span_with span met breaks = record {
  last = Some met;
  positions = span.positions + (way_parts span.last met breaks).0;
  units = span.units + (way_parts span.last met breaks).1;
  breaks = span.breaks + (way_parts span.last met breaks).2;
}

-- its sums have 64 bits
abbrev pub fits : ClockSpan → Bool
fits span = nat_lt span.positions (2 ^ 64) && (nat_lt span.units (2 ^ 64) && nat_lt span.breaks (2 ^ 64))

-- no PCR yet
abbrev pub no_span : ClockSpan
no_span = record { last = None; positions = 0; units = 0; breaks = 0 }

-- the position and the PCR of a packet with a PCR
abbrev pub met_clock : Met → MetClock
met_clock row = record { at = row.at; clock = clock_of row.packet }

-- what is kept of packets with a PCR
abbrev pub span_of : List Met → ClockSpan
span_of rows = record {
  last = option_map met_clock (last_row rows);
  positions = positions_in (ways_of rows);
  units = units_in (ways_of rows);
  breaks = breaks_in (ways_of rows);
}

-- what is kept of the PCRs of a PID
abbrev pub span_on : List Cell → ℕ → ClockSpan
span_on cells pid = span_of (sound_clocks_on pid cells)

-- the positions that are covered by what is kept of a PID, if there is one
abbrev pub covered_in : Option ClockSpan → ℕ
covered_in None = 0
covered_in (Some span) = span.positions

-- of two the one that covers more, and of equals the first one
abbrev pub wider_span : Option ClockSpan → ClockSpan → Option ClockSpan
wider_span best span = if nat_lt (covered_in best) span.positions then Some span else best

-- what is kept of each PID is that of its packets with a PCR
pub record AreSpans (spans : Spans) (cells : List Cell) : Type 0 where
  pub each : (pid : ℕ) → pid < PID_COUNT → slice_index_or spans.spans pid no_span ≡ span_on cells pid

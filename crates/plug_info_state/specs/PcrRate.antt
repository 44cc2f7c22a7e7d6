-- The bit rate of a stream by its program clock references. ISO/IEC 13818-1, 2.4.3.5: a PCR is the time of its place
-- in the stream in units of 27 MHz, and wraps at its period; after a discontinuity_indicator (2.4.3.4) the time base
-- is another one, and nothing that a packet with the transport_error_indicator says is sure (2.4.3.2). Which PID
-- counts, that places are positions, and which ways from one PCR to the next have a part, is this project's own rule.
use Rattle.std.specs.Prelude.{ℕ, ◌-◌, ◌*◌, ◌==◌, Bool, not, ◌&&◌, List, [], ◌∷◌, length, filter, map, fold, Option, None, Some, option_map, nat_le, nat_lt, if◌then◌else◌}
use Rattle.std.specs.List.{sum}
use Rattle.ts_packet.specs.declared.cell.Cell.{Cell}
use Rattle.ts_packet.specs.declared.numbers.TheConstants.{PID_COUNT}
use Rattle.ts_packet.specs.Adaptation.{discontinuity_of}
use Rattle.ts_packet.specs.Header.{error_indicator_of}
use Rattle.ts_packet.specs.MetRows.{Met, met_rows}
use Rattle.ts_packet.specs.Pcr.{clock_of}
use Rattle.plugin_notes.specs.PidPackets.{numbers_below}
use Rattle.plug_pcr.specs.ClockFaults.{has_clock_on}
use Rattle.plug_clock.specs.ClockUnits.{units_after}
use Rattle.plug_clock.specs.declared.limits.TheConstants.{PACKET_UNITS}
use Rattle.plug_pcr.specs.declared.limits.TheConstants.{MOST_BITRATE}
use Rattle.plug_info_texts.specs.Rounding.{rounded}
use Rattle.plug_info_state.specs.declared.clock_span.TheConstants.{LONGEST_SPAN}

-- the packet, given with its position, is on the PID, has a PCR, and is not marked as damaged
abbrev pub has_sound_clock_on : ℕ → Met → Bool
has_sound_clock_on pid row = has_clock_on pid row && not (error_indicator_of row.packet)

-- these packets of a PID
abbrev pub sound_clocks_on : ℕ → List Cell → List Met
sound_clocks_on pid cells = filter (has_sound_clock_on pid) (met_rows cells)

-- the way from one PCR to the next: in positions, in units of the clock, and whether a discontinuity_indicator says
-- that the later one is of another time base
pub record Way : Type 0 where
  pub positions : ℕ
  pub units : ℕ
  pub breaks : Bool

-- the way from a packet with a PCR to the next one
abbrev pub way_between : Met → Met → Way
way_between before row = record {
  positions = row.at - before.at;
  units = units_after (clock_of before.packet) (clock_of row.packet);
  breaks = discontinuity_of row.packet;
}

-- the ways from a packet on, through those after it
abbrev pub ways_after : Met → List Met → List Way
ways_after before [] = []
ways_after before (row ∷ rows) = way_between before row ∷ ways_after row rows

-- the ways between packets with a PCR
abbrev pub ways_of : List Met → List Way
ways_of [] = []
ways_of (first ∷ rows) = ways_after first rows

-- A way has a part in the rate: the later PCR is of the same time base, and ahead of the earlier one by more than
-- nothing and by no more than a second. Others are joints of two streams, gaps, and PCRs that are wrong.
abbrev pub has_part : Bool → ℕ → Bool
has_part breaks units = not breaks && (nat_lt 0 units && nat_le units LONGEST_SPAN)

-- such a way is a span of the clock
abbrev pub is_span : Way → Bool
is_span way = has_part way.breaks way.units

-- the ways that are none, of which the rate is made without
abbrev pub is_break : Way → Bool
is_break way = not (is_span way)

-- the positions that the spans among ways cover
abbrev pub positions_in : List Way → ℕ
positions_in ways = sum (map (λ way. way.positions) (filter is_span ways))

-- the units of the clock that they take
abbrev pub units_in : List Way → ℕ
units_in ways = sum (map (λ way. way.units) (filter is_span ways))

-- how many ways are no spans
abbrev pub breaks_in : List Way → ℕ
breaks_in ways = length (filter is_break ways)

-- the ways between the PCRs of a PID
abbrev pub ways_on : ℕ → List Cell → List Way
ways_on pid cells = ways_of (sound_clocks_on pid cells)

-- a bit rate, unless it is above the greatest one
abbrev pub rate_within : ℕ → Option ℕ
rate_within rate = if nat_le rate MOST_BITRATE then Some rate else None

-- the bit rate of positions, each of 188 bytes, that take these units of the clock: whole bits per second, rounded to
-- the nearest
abbrev pub rate_over : ℕ → ℕ → Option ℕ
rate_over positions units = if units == 0 then None else rate_within (rounded (positions * PACKET_UNITS) units)

-- the bit rate by the PCRs of a PID; there is none without a span, or if it is too great
abbrev pub rate_on : ℕ → List Cell → Option ℕ
rate_on pid cells = rate_over (positions_in (ways_on pid cells)) (units_in (ways_on pid cells))

-- the positions that the spans of a PID cover; 0 where there is no PID
abbrev pub covered_on : List Cell → Option ℕ → ℕ
covered_on cells None = 0
covered_on cells (Some pid) = positions_in (ways_on pid cells)

-- of two PIDs the one whose spans cover more, and of equals the first one
abbrev pub wider_of : List Cell → Option ℕ → ℕ → Option ℕ
wider_of cells best pid = if nat_lt (covered_on cells best) (covered_on cells (Some pid)) then Some pid else best

-- the PID of which the rate is: the one whose spans cover the most positions, and of equals the least; there is none
-- where no PID has a span
abbrev pub clock_pid : List Cell → Option ℕ
clock_pid cells = fold (wider_of cells) None (numbers_below PID_COUNT)

-- the bit rate by the PCRs of a PID, if there is one
abbrev pub rate_at : List Cell → Option ℕ → Option ℕ
rate_at cells None = None
rate_at cells (Some pid) = rate_on pid cells

-- the bit rate of a stream
abbrev pub rate_of : List Cell → Option ℕ
rate_of cells = rate_at cells (clock_pid cells)

-- how many ways between the PCRs of its PID are no spans
abbrev pub breaks_of : List Cell → Option ℕ
breaks_of cells = option_map (λ pid. breaks_in (ways_on pid cells)) (clock_pid cells)

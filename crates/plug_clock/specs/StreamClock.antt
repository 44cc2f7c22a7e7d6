-- The clock of a stream: the time that its PCRs tell, in units of the 27 MHz clock. This project's own rule, over the
-- program_clock_reference and the discontinuity_indicator of ISO/IEC 13818-1, 2.4.3.5.
use Rattle.std.specs.Prelude.{ℕ, ◌+◌, ◌-◌, ◌*◌, ◌/◌, List, [], ◌∷◌, Bool, true, false, not, ◌==◌, ◌&&◌, ◌||◌, nat_le, nat_lt, is_some, Option, None, Some, if◌then◌else◌}
use Rattle.ts_packet.specs.declared.cell.Cell.{Cell}
use Rattle.ts_packet.specs.MetRows.{Met, met_rows}
use Rattle.ts_packet.specs.Header.{error_indicator_of, pid_of}
use Rattle.ts_packet.specs.Adaptation.{discontinuity_of}
use Rattle.ts_packet.specs.Pcr.{pcr_of}
use Rattle.plug_clock.specs.ClockUnits.{units_after}
use Rattle.plug_clock.specs.declared.last_clock.LastClock.{LastClock}
use Rattle.plug_clock.specs.declared.limits.TheConstants.{CLOCK_RATE}
use Rattle.plug_clock.specs.declared.limits.TheConstants.{LONGEST_GAP, MOST_UNITS}
use Rattle.plug_clock.specs.declared.stream_clock.StreamClock.{StreamClock}

-- ---- which PCRs are read

-- the PCR of a packet, where it has one and its transport_error_indicator is not set
abbrev pub time_in : List ℕ → Option ℕ
time_in packet = if error_indicator_of packet then None else pcr_of packet

-- the PCRs of this PID are those that are read
abbrev pub is_read : Option ℕ → ℕ → Bool
is_read None pid = false
is_read (Some read) pid = read == pid

-- at a position no PCR was read for two seconds at the mean of all steps, or for 100,000 positions, or none at all
abbrev pub has_stopped : StreamClock → Option LastClock → ℕ → Bool
has_stopped clock None at = true
has_stopped clock (Some last) at =
    nat_lt (2 * CLOCK_RATE * clock.positions) ((at - last.at) * clock.units) || nat_lt LONGEST_GAP (at - last.at)

-- a PCR of a PID at a position is read: this PID is the one that is read, or becomes it, where none was asked for and the one
-- before has stopped
abbrev pub reads : StreamClock → ℕ → ℕ → Bool
reads clock at pid = is_read clock.pid pid || (not clock.is_asked && has_stopped clock clock.last at)

-- ---- what a PCR that is read does to the clock

-- a sum of units or positions stands still at 2^62
abbrev pub up_to_most : ℕ → ℕ
up_to_most n = if nat_le n MOST_UNITS then n else MOST_UNITS

-- a step of so many units is a joint: the PID has changed, the packet has the discontinuity_indicator, or the PCR is the
-- same as before, behind it, or more than a second after it
abbrev pub is_joint : Bool → Bool → ℕ → Bool
is_joint is_same flagged step = not is_same || (flagged || (step == 0 || nat_lt CLOCK_RATE step))

-- the units that so many positions take at the mean of all steps
abbrev pub mean_units : StreamClock → ℕ → ℕ
mean_units clock count = if clock.positions == 0 then 0 else count * clock.units / clock.positions

-- the clock after a step of so many units over so many positions: at a joint the time goes on at the mean of all steps
abbrev pub stepped : StreamClock → Bool → ℕ → ℕ → StreamClock
stepped clock joint step count =
    if joint then record clock { time = up_to_most (clock.time + mean_units clock count) }
    else record clock {
      time = up_to_most (clock.time + step);
      units = up_to_most (clock.units + step);
      positions = up_to_most (clock.positions + count);
    }

-- the clock after the step from the last PCR to one of this value, of a packet at a position; the first PCR makes none
abbrev pub moved : StreamClock → Option LastClock → ℕ → List ℕ → ℕ → StreamClock
moved clock None at packet value = clock
moved clock (Some last) at packet value =
    let step = units_after last.clock value in
    stepped clock (is_joint (is_read clock.pid (pid_of packet)) (discontinuity_of packet) step) step (at - last.at)

-- the clock after a PCR of this value that is read
abbrev pub clock_read : StreamClock → ℕ → List ℕ → ℕ → StreamClock
clock_read clock at packet value = record (moved clock clock.last at packet value) {
  pid = Some (pid_of packet);
  last = Some (record { at = at; clock = value });
}

-- ---- the clock after cells

-- the clock before any cell, which reads the PCRs of this PID alone where one is asked for
abbrev pub clock_start : Option ℕ → StreamClock
clock_start pid = record { pid = pid; is_asked = is_some pid; last = None; time = 0; units = 0; positions = 0 }

-- the clock after a packet at a position, which has this PCR or none
abbrev pub clock_with : StreamClock → ℕ → List ℕ → Option ℕ → StreamClock
clock_with clock at packet None = clock
clock_with clock at packet (Some value) = if reads clock at (pid_of packet) then clock_read clock at packet value else clock

-- the clock after a packet at a position
unfoldable pub clock_met : StreamClock → ℕ → List ℕ → StreamClock
clock_met clock at packet = clock_with clock at packet (time_in packet)

-- the clock after these packets, given with their positions
abbrev pub clock_through : StreamClock → List Met → StreamClock
clock_through clock [] = clock
clock_through clock (row ∷ rows) = clock_through (clock_met clock row.at row.packet) rows

-- the clock of a stream after the cells that were met
unfoldable pub clock_after : Option ℕ → List Cell → StreamClock
clock_after pid cells = clock_through (clock_start pid) (met_rows cells)

-- the step clock: the time after the cells that were met, in units of the 27 MHz clock from the first PCR on
abbrev pub step_time : Option ℕ → List Cell → ℕ
step_time pid cells = (clock_after pid cells).time

-- a time in whole milliseconds
abbrev pub milliseconds_of : ℕ → ℕ
milliseconds_of units = units * 1000 / CLOCK_RATE

-- a time is so many seconds, or more
abbrev pub has_seconds : ℕ → ℕ → Bool
has_seconds seconds units = nat_le (seconds * CLOCK_RATE) units

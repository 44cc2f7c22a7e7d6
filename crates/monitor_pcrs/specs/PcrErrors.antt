-- Errors of the steps between the PCRs of a PID: ETSI TR 101 290, 5.2.2 (2.3 PCR_error, 2.4 PCR_accuracy_error), over ISO/IEC
-- 13818-1, 2.4.2.2 (a PCR is off by 500 ns at most, so two of them by 1,000) and 2.7.2 (there is one at least each 100 ms).
use Rattle.std.specs.Prelude.{ℕ, ◌+◌, ◌-◌, ◌*◌, ◌/◌, List, [], ◌∷◌, length, Bool, ◌==◌, ◌||◌, nat_lt, Option, None, Some, if◌then◌else◌}
use Rattle.std.specs.List.{filter_map}
use Rattle.ts_packet.specs.declared.cell.Cell.{Cell}
use Rattle.ts_packet.specs.MetRows.{Met, met_rows}
use Rattle.ts_packet.specs.Header.{pid_of}
use Rattle.ts_packet.specs.Adaptation.{discontinuity_of}
use Rattle.plug_clock.specs.ClockUnits.{units_after}
use Rattle.plug_clock.specs.StreamClock.{time_in}
use Rattle.plug_clock.specs.declared.last_clock.LastClock.{LastClock}
use Rattle.plug_clock.specs.declared.limits.TheConstants.{PACKET_UNITS}
use Rattle.monitor_pcrs.specs.declared.limits.TheConstants.{LONGEST_STEP, MICROSECOND}
use Rattle.monitor_pcrs.specs.declared.pcr_error.PcrError.{PcrError}
use Rattle.monitor_pcrs.specs.declared.pcr_error.PcrError.TheVariants.{Step, Accuracy}

-- ---- the PCRs of a PID

-- the PCR of a packet at a position, where it has one and its transport_error_indicator is not set
abbrev pub clock_at : ℕ → Option ℕ → Option LastClock
clock_at at None = None
clock_at at (Some value) = Some (record { at = at; clock = value })

-- so of a packet on a PID, given with its position
abbrev pub clock_on : ℕ → Met → Option LastClock
clock_on pid row = if pid_of row.packet == pid then clock_at row.at (time_in row.packet) else None

-- the PCRs on a PID in a list of cells; dropped cells have positions too
abbrev pub clocks_on : ℕ → List Cell → List LastClock
clocks_on pid cells = filter_map (clock_on pid) (met_rows cells)

-- the last one of some PCRs, if there is one
abbrev pub last_in : Option LastClock → List LastClock → Option LastClock
last_in before [] = before
last_in before (clock ∷ clocks) = last_in (Some clock) clocks

-- the last PCR on a PID
abbrev pub last_clock_on : ℕ → List Cell → Option LastClock
last_clock_on pid cells = last_in None (clocks_on pid cells)

-- ---- what is wrong with a step

-- a step of 0, or of more than 100 ms, is wrong by itself
abbrev pub is_wrong_step : ℕ → Bool
is_wrong_step step = step == 0 || nat_lt LONGEST_STEP step

-- the distance of two numbers
abbrev pub apart : ℕ → ℕ → ℕ
apart m n = (m - n) + (n - m)

-- how far a step is from what so many positions take at a bit rate, in parts of a unit of the 27 MHz clock, of which it has as
-- many as the bit rate
abbrev pub parts_off : ℕ → ℕ → ℕ → ℕ
parts_off bitrate positions step = apart (step * bitrate) (positions * PACKET_UNITS)

-- such parts in whole nanoseconds
abbrev pub nanoseconds_of : ℕ → ℕ → ℕ
nanoseconds_of bitrate parts = parts * 1000 / (MICROSECOND * bitrate)

-- with a bit rate alone: the step is off by more than 1,000 ns
abbrev pub accuracy_error : Option ℕ → ℕ → ℕ → Option PcrError
accuracy_error None positions step = None
accuracy_error (Some bitrate) positions step =
    if nat_lt (MICROSECOND * bitrate) (parts_off bitrate positions step)
    then Some (Accuracy (nanoseconds_of bitrate (parts_off bitrate positions step)))
    else None

-- what is wrong with a step over so many positions
abbrev pub step_error : Option ℕ → ℕ → ℕ → Option PcrError
step_error bitrate positions step = if is_wrong_step step then Some (Step step) else accuracy_error bitrate positions step

-- the step to a PCR from the one before on its PID, where there is one and the packet has no discontinuity_indicator
abbrev pub error_between : Option ℕ → Option LastClock → List ℕ → LastClock → Option PcrError
error_between bitrate None packet clock = None
error_between bitrate (Some before) packet clock =
    if discontinuity_of packet then None
    else step_error bitrate (clock.at - before.at) (units_after before.clock clock.clock)

-- so where the packet has a PCR
abbrev pub error_to : Option ℕ → Option LastClock → List ℕ → Option LastClock → Option PcrError
error_to bitrate before packet None = None
error_to bitrate before packet (Some clock) = error_between bitrate before packet clock

-- the error of a packet after a history of cells, at the bit rate of the stream where one is given
abbrev pub pcr_error_on : Option ℕ → List Cell → List ℕ → Option PcrError
pcr_error_on bitrate history packet =
    error_to bitrate (last_clock_on (pid_of packet) history) packet (clock_at (length history) (time_in packet))

-- The clock of a stream between its PCRs, for lines that tell times. This project's own rule.
use Rattle.std.specs.Prelude.{ℕ, ◌+◌, ◌-◌, ◌*◌, ◌/◌, List, [], ◌∷◌, ◌++◌, nat_le, Option, None, Some, if◌then◌else◌}
use Rattle.ts_packet.specs.declared.cell.Cell.{Cell}
use Rattle.ts_packet.specs.MetRows.{Met, met_rows}
use Rattle.ts_packet.specs.Header.{pid_of}
use Rattle.plug_clock.specs.StreamClock.{clock_met, clock_start, reads, time_in}
use Rattle.plug_clock.specs.declared.stream_clock.StreamClock.{StreamClock}

-- a PCR that was read: its position, and the step clock there
pub record Tick : Type 0 where
  pub at : ℕ
  pub time : ℕ

-- the PCR of a packet that is given with its position, where it has this one and it is read
abbrev pub tick_of : StreamClock → Met → Option ℕ → List Tick
tick_of clock row None = []
tick_of clock row (Some value) =
    if reads clock row.at (pid_of row.packet)
    then record { at = row.at; time = (clock_met clock row.at row.packet).time } ∷ []
    else []

-- the PCRs of these packets that are read
abbrev pub ticks_from : StreamClock → List Met → List Tick
ticks_from clock [] = []
ticks_from clock (row ∷ rows) =
    tick_of clock row (time_in row.packet) ++ ticks_from (clock_met clock row.at row.packet) rows

-- the PCRs of the cells that were met that are read
abbrev pub ticks_of : Option ℕ → List Cell → List Tick
ticks_of pid cells = ticks_from (clock_start pid) (met_rows cells)

-- the time at a position between two PCRs that are read, in proportion to the positions
abbrev pub time_between : Tick → Tick → ℕ → ℕ
time_between before next n = before.time + (n - before.at) * (next.time - before.time) / (next.at - before.at)

-- the time at a position after a PCR, where a later one tells it
abbrev pub time_after : Tick → List Tick → ℕ → Option ℕ
time_after before [] n = None
time_after before (next ∷ ticks) n = if nat_le n next.at then Some (time_between before next n) else time_after next ticks n

-- the time at a position by these PCRs: 0 up to the first one
abbrev pub time_by : List Tick → ℕ → Option ℕ
time_by [] n = None
time_by (first ∷ ticks) n = if nat_le n first.at then Some 0 else time_after first ticks n

-- the line clock: the time at a position, in units of the 27 MHz clock from the first PCR on; it is known with the first
-- PCR that is read there or later
abbrev pub line_time : Option ℕ → List Cell → ℕ → Option ℕ
line_time pid cells n = time_by (ticks_of pid cells) n

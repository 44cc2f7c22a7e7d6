-- Lemmas on the time of a clock, which never falls and never passes its greatest number.
use Rattle.std.proofs.Common.{ℕ, ◌+◌, ◌≤◌, List, [], ◌∷◌, ◌++◌, length, Bool, true, false, Option, None, Some, if◌then◌else◌, subst, sym, append-nil, zero-le, arith}
use Rattle.std.proofs.lemmas.List.{append_assoc}
use Rattle.std.proofs.lemmas.Bool.Decides.{nat_tests}
use Rattle.ts_packet.specs.declared.cell.Cell.{Cell}
use Rattle.ts_packet.specs.Cells.{Live, Dropped}
use Rattle.ts_packet.specs.Header.{pid_of}
use Rattle.ts_packet.specs.MetRows.{Met, met_rows}
use Rattle.plug_clock.specs.declared.last_clock.LastClock.{LastClock}
use Rattle.plug_clock.specs.StreamClock.{clock_after, clock_met, clock_read, clock_start, clock_through, clock_with, mean_units, moved, reads, step_time, stepped, time_in, up_to_most}
use Rattle.plug_clock.specs.declared.limits.TheConstants.{MOST_UNITS}
use Rattle.plug_clock.specs.declared.stream_clock.StreamClock.{StreamClock}
use Rattle.plug_clock.proofs.Ticking.{clock-dropped, clock-live}

-- a clock has at least this time, and at most the greatest
abbrev Grows : ℕ → StreamClock → Type 0
Grows time clock = (time ≤ clock.time) × (clock.time ≤ MOST_UNITS)

sum-grows : (time more : ℕ) → time ≤ MOST_UNITS → (time ≤ up_to_most (time + more)) × (up_to_most (time + more) ≤ MOST_UNITS)
sum-grows time more le = grind (arith, nat_tests)

same-grows : (clock : StreamClock) → clock.time ≤ MOST_UNITS → Grows clock.time clock
same-grows clock le = (omega arith, le)

stepped-grows : (clock : StreamClock) (joint : Bool) (step count : ℕ) → clock.time ≤ MOST_UNITS → Grows clock.time (stepped clock joint step count)
stepped-grows clock true step count le = sum-grows clock.time (mean_units clock count) le
stepped-grows clock false step count le = sum-grows clock.time step le

moved-grows : (clock : StreamClock) (last : Option LastClock) (at : ℕ) (packet : List ℕ) (value : ℕ) → clock.time ≤ MOST_UNITS → Grows clock.time (moved clock last at packet value)
moved-grows clock None at packet value le = same-grows clock le
moved-grows clock (Some last) at packet value le = stepped-grows clock _ _ _ le

with-grows : (clock : StreamClock) (at : ℕ) (packet : List ℕ) (value : Option ℕ) → clock.time ≤ MOST_UNITS → Grows clock.time (clock_with clock at packet value)
with-grows clock at packet None le = same-grows clock le
with-grows clock at packet (Some value) le =
    elim (reads clock at (pid_of packet)) as (λ b. Grows clock.time (if b then clock_read clock at packet value else clock)) [
      | true ↦ moved-grows clock clock.last at packet value le
      | false ↦ same-grows clock le
    ]

met-grows : (clock : StreamClock) (at : ℕ) (packet : List ℕ) → clock.time ≤ MOST_UNITS → Grows clock.time (clock_met clock at packet)
unfolding clock_met
met-grows clock at packet le = with-grows clock at packet (time_in packet) le

through-most : (clock : StreamClock) (rows : List Met) → clock.time ≤ MOST_UNITS → (clock_through clock rows).time ≤ MOST_UNITS
through-most clock [] le = le
through-most clock (row ∷ rows) le = through-most (clock_met clock row.at row.packet) rows (met-grows clock row.at row.packet le).1

after-most : (pid : Option ℕ) (cells : List Cell) → step_time pid cells ≤ MOST_UNITS
unfolding clock_after
after-most pid cells = through-most (clock_start pid) (met_rows cells) zero-le

cell-grows : (pid : Option ℕ) (cells : List Cell) (cell : Cell) → step_time pid cells ≤ step_time pid (cells ++ cell ∷ [])
cell-grows pid cells (Live packet labels) =
    subst (λ (clock : StreamClock). step_time pid cells ≤ clock.time) (sym (clock-live pid cells packet labels))
    (met-grows (clock_after pid cells) (length cells) packet (after-most pid cells)).0
cell-grows pid cells Dropped =
    subst (λ (clock : StreamClock). step_time pid cells ≤ clock.time) (sym (clock-dropped pid cells)) (let e : step_time pid cells ≤ step_time pid cells = omega arith in e)

-- the time never goes back
pub cells-grow : (pid : Option ℕ) (cells more : List Cell) → step_time pid cells ≤ step_time pid (cells ++ more)
cells-grow pid cells [] = subst (λ (same : List Cell). step_time pid cells ≤ step_time pid same) (sym (append-nil cells)) (let e : step_time pid cells ≤ step_time pid cells = omega arith in e)
cells-grow pid cells (cell ∷ more) =
    subst (λ (all : List Cell). step_time pid cells ≤ step_time pid all) (append_assoc cells (cell ∷ []) more)
    (omega (arith, cell-grows pid cells cell, cells-grow pid (cells ++ cell ∷ []) more))

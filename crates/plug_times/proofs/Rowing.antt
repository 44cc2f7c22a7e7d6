-- Lemmas on the PCRs of each PID, with what one more packet told.
use Rattle.std.proofs.Common.{ℕ, ◌<◌, arith}
use Rattle.std.specs.List.{slice_index_or}
use Rattle.std.proofs.lemmas.List.Sums.{count_by-le-length, length-filter}
use Rattle.ts_packet.specs.declared.numbers.TheConstants.{PID_COUNT}
use Rattle.plug_times.specs.ClockSteps.{HasRowRoom, HasStepRoom, clocks_on, is_clock_on, no_steps}
use Rattle.plug_times.specs.declared.step_row.StepRow.{StepRow}

-- one more can be counted
pub has_room : (row : StepRow) (pid : ℕ) → HasRowRoom row → pid < PID_COUNT → HasStepRoom (slice_index_or row.steps pid no_steps)
has_room row pid room below = record {
  clocks = clocks_on pid room.stamps;
  steps = room.stepped.each pid below;
  few = omega (
    arith,
    length-filter (is_clock_on pid) room.stamps,
    count_by-le-length (is_clock_on pid) room.stamps,
    room.few,
  );
}

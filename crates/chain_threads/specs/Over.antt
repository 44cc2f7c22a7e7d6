-- The stages of a run in threads when all of them have ended. This project's own rule.
use Rattle.std.specs.Prelude.{◌≡◌, ℕ, suc, ◌+◌, ◌≤◌, List, length, slice_index_or}
use Rattle.cell_land.specs.declared.cell_window.Bases.{Bases}
use Rattle.atomic_table.specs.Seated.{TableId}
use Rattle.stage_run.specs.Seeing.{Seeing}
use Rattle.stage_run.specs.declared.stage_part.StagePart.{StagePart}
use Rattle.chain_run.specs.Runs.{RunStart}
use Rattle.chain_run.specs.Ran.{IsValidRun}
use Rattle.window_ring.specs.declared.stage_seat.StageSeat.{StageSeat}
use Rattle.chain_threads.specs.Standing.{IsOver}

module _ {S K P : Type 0} (see : Seeing S K P) (begun : RunStart S K) (base : Bases) (table : TableId) where
  -- the seat and the part of stage `k`, which has ended
  pub record EndsAt (k : ℕ) (seat : StageSeat) (part : StagePart S K P) : Type 0 where
    pub stage : seat.stage ≡ k
    pub over : IsOver see begun base table seat part

  -- the seats and the parts of all stages, which have ended
  pub record AllHaveEnded (seats : List StageSeat) (parts : List (StagePart S K P)) : Type 0 where
    pub run : IsValidRun begun
    pub seats_are : length seats ≡ begun.plan.plugins + 2
    pub parts_are : length parts ≡ begun.plan.plugins + 2
    pub over : (k : ℕ) (d : StageSeat) (e : StagePart S K P) → k ≤ suc begun.plan.plugins
        → EndsAt k (slice_index_or seats k d) (slice_index_or parts k e)

-- The stages of a run in two threads, with their seats. This project's own rule.
use Rattle.std.specs.Prelude.{List, [], ◌∷◌, false}
use Rattle.stage_run.specs.declared.stage_part.StagePart.{StagePart}
use Rattle.chain_run.specs.Runs.{nothing_told}
use Rattle.window_ring.specs.declared.stage_seat.StageSeat.{StageSeat}
use Rattle.chain_live_threads.specs.declared.live_stage.LiveStage.{LiveStage}

module _ {S K P : Type 0} where
  -- a stage of which nothing was done
  abbrev pub new_stage : StagePart S K P → StageSeat → LiveStage S K P
  new_stage part seat = record { seat = seat; part = part; done = 0; word = nothing_told; over = false; written = 0 }

  -- each part with the seat at its place
  abbrev pub seated : List (StagePart S K P) → List StageSeat → List (LiveStage S K P)
  seated (part ∷ parts) (seat ∷ seats) = new_stage part seat ∷ seated parts seats
  seated _ _ = []

  -- the parts of a row of stages
  abbrev pub parts_of : List (LiveStage S K P) → List (StagePart S K P)
  parts_of [] = []
  parts_of (stage ∷ stages) = stage.part ∷ parts_of stages

  -- and their seats
  abbrev pub seats_of : List (LiveStage S K P) → List StageSeat
  seats_of [] = []
  seats_of (stage ∷ stages) = stage.seat ∷ seats_of stages

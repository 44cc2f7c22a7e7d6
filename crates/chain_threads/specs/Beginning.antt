-- The stages of a run in threads with their seats: before any of them began, and their parts after the run. This project's
-- own rule.
use Rattle.std.specs.Prelude.{◌≡◌, ◌+◌, List, [], ◌∷◌, length, false}
use Rattle.stage_run.specs.Seeing.{Seeing}
use Rattle.stage_run.specs.declared.stage_part.StagePart.{StagePart}
use Rattle.chain_run.specs.Runs.{RunStart, nothing_told}
use Rattle.chain_run.specs.NewRow.{IsNewRow}
use Rattle.window_ring.specs.declared.ring.Ring.{Ring}
use Rattle.window_ring.specs.declared.stage_seat.StageSeat.{StageSeat}
use Rattle.window_ring.specs.Seats.{key_of, table_of}
use Rattle.window_ring.specs.Opening.{AreFresh}
use Rattle.chain_threads.specs.declared.stage.Stage.{Stage}

module _ {S K P : Type 0} where
  -- a stage of which nothing was done
  abbrev pub new_stage : StagePart S K P → StageSeat → Stage S K P
  new_stage part seat = record { seat = seat; part = part; done = 0; word = nothing_told; over = false }

  -- each part with the seat at its place
  abbrev pub seated : List (StagePart S K P) → List StageSeat → List (Stage S K P)
  seated (part ∷ parts) (seat ∷ seats) = new_stage part seat ∷ seated parts seats
  seated _ _ = []

  -- the parts of a row of stages
  abbrev pub parts_of : List (Stage S K P) → List (StagePart S K P)
  parts_of [] = []
  parts_of (stage ∷ stages) = stage.part ∷ parts_of stages

  -- and their seats
  abbrev pub seats_of : List (Stage S K P) → List StageSeat
  seats_of [] = []
  seats_of (stage ∷ stages) = stage.seat ∷ seats_of stages

-- the parts of a run and the seats of its ring, none of which has begun
pub record AreNew {S K P : Type 0} (see : Seeing S K P) (begun : RunStart S K) (ring : Ring)
    (parts : List (StagePart S K P)) (seats : List StageSeat) : Type 0 where
  pub row : IsNewRow see begun parts
  pub plan_is : (key_of ring).plan ≡ begun.plan
  pub words : (table_of ring).words ≡ 1
  pub slots : (table_of ring).slots ≡ 1
  pub all : length seats ≡ begun.plan.plugins + 2
  pub fresh : AreFresh (key_of ring) (table_of ring) seats

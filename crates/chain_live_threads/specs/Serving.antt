-- A stage of a chain in two threads, between two turns. This project's own rule.
use Rattle.std.specs.Prelude.{◌≡◌, List, ◌++◌, true, false}
use Rattle.cell_land.specs.declared.cell_window.Bases.{Bases}
use Rattle.atomic_table.specs.Seated.{TableId}
use Rattle.chain_core.specs.Machine.{Visit}
use Rattle.stage_run.specs.Seeing.{Seeing}
use Rattle.stage_run.specs.PartLists.{PartLists}
use Rattle.chain_run.specs.Runs.{RunStart}
use Rattle.window_ring.specs.declared.ring.Ring.{Ring}
use Rattle.window_ring.specs.Seats.{seen_of, key_of, table_of}
use Rattle.chain_threads.specs.Standing.{key_at, StandsAt, IsOver, written_by}
use Rattle.chain_live_threads.specs.declared.live_stage.LiveStage.{LiveStage}

module _ {S K P : Type 0} (see : Seeing S K P) where
  module _ (begun : RunStart S K) (base : Bases) (table : TableId) where
    -- the stage goes on with these lists or has ended with them, as it says; and it knows how many cells were written by what it
    -- has seen
    pub record ServesBy (lists : PartLists) (stage : LiveStage S K P) : Type 0 where
      pub goes_on : stage.over ≡ false
          → (st : StandsAt see begun base table stage.seat stage.part stage.done stage.word) × (st.standing.lists ≡ lists)
      pub has_ended : stage.over ≡ true
          → (is : IsOver see begun base table stage.seat stage.part) × (is.over.lists ≡ lists)
      pub knows : stage.written ≡ written_by see begun (seen_of stage.seat)

    -- the same with some lists
    abbrev pub Serves : LiveStage S K P → Type 0
    Serves stage = (lists : PartLists) × ServesBy lists stage

  -- the seat has seen more
  abbrev pub HasSeenMore : LiveStage S K P → LiveStage S K P → Type 0
  HasSeenMore old new = (more : List Visit) × (seen_of new.seat ≡ more ++ seen_of old.seat)

  module _ (ring : Ring) where
    -- the run of this ring began somehow, and the stage serves it
    unfoldable pub IsReady : LiveStage S K P → Type 0
    IsReady stage = (begun : RunStart S K) × (base : Bases) × (key_of ring ≡ key_at begun base)
        × Serves begun base (table_of ring) stage

    -- it is the same stage; and however the run began, it serves it on, and has seen what it had seen, and more
    unfoldable pub Keeps : LiveStage S K P → LiveStage S K P → Type 0
    Keeps old new = (new.seat.stage ≡ old.seat.stage)
        × ((begun : RunStart S K) (base : Bases) → key_of ring ≡ key_at begun base
        → Serves begun base (table_of ring) old → Serves begun base (table_of ring) new × HasSeenMore old new)

-- Stages of a row that are driven, in whatever threads. This project's own rule.
use Rattle.std.specs.Prelude.{◌≡◌, List, [], ◌∷◌, Bool, true, false}
use Rattle.cell_land.specs.declared.cell_window.Bases.{Bases}
use Rattle.stage_run.specs.Seeing.{Seeing}
use Rattle.chain_run.specs.Runs.{RunStart}
use Rattle.atomic_table.specs.Seated.{TableId}
use Rattle.window_ring.specs.declared.ring.Ring.{Ring}
use Rattle.chain_model.specs.Each.{Each}
use Rattle.window_ring.specs.Seats.{key_of, table_of}
use Rattle.chain_threads.specs.declared.stage.Stage.{Stage}
use Rattle.chain_threads.specs.declared.turn.Turn.{Turn}
use Rattle.chain_threads.specs.declared.turn.Turn.TheVariants.{Ended}
use Rattle.chain_threads.specs.Standing.{key_at}
use Rattle.chain_threads.specs.Turning.{Stands, Ends}

-- two rows have one length, and the members at each place have the property
unfoldable pub AreBeside : {X : Type 0} → (X → X → Type 0) → List X → List X → Type 0
AreBeside F [] [] = Unit {0}
AreBeside F (x ∷ xs) (y ∷ ys) = F x y × AreBeside F xs ys
AreBeside F _ _ = ⊥

-- the result for a stage that has ended
abbrev pub is_ended : Turn → Bool
is_ended Ended = true
is_ended _ = false

-- all stages of a row have ended, where this is true
unfoldable pub HaveEnded : {S K P : Type 0} → Bool → List (Stage S K P) → Type 0
HaveEnded over stages = over ≡ true → Each (λ stage. stage.over ≡ true) stages

module _ {S K P : Type 0} (see : Seeing S K P) where
  -- a stage goes on or has ended, as it says
  abbrev pub Holds : RunStart S K → Bases → TableId → Stage S K P → Type 0
  Holds begun base table stage = (stage.over ≡ false → Stands see begun base table stage)
      × (stage.over ≡ true → Ends see begun base table stage)

  module _ (ring : Ring) where
    -- the run of this ring began somehow, and the stage goes on or has ended in it
    unfoldable pub IsReady : Stage S K P → Type 0
    IsReady stage = (begun : RunStart S K) × (base : Bases) × (key_of ring ≡ key_at begun base)
        × Holds begun base (table_of ring) stage

    -- and so does each stage of a row, in one run
    unfoldable pub AreReady : List (Stage S K P) → Type 0
    AreReady stages = (begun : RunStart S K) × (base : Bases) × (key_of ring ≡ key_at begun base)
        × Each (Holds begun base (table_of ring)) stages

    -- it is the same stage, and however the run began, the stage keeps what it promises
    unfoldable pub Keeps : Stage S K P → Stage S K P → Type 0
    Keeps old new = (new.seat.stage ≡ old.seat.stage)
        × ((begun : RunStart S K) (base : Bases) → key_of ring ≡ key_at begun base
        → Holds begun base (table_of ring) old → Holds begun base (table_of ring) new)

    -- each stage of a row is the same and keeps what it promises
    abbrev pub Carried : List (Stage S K P) → List (Stage S K P) → Type 0
    Carried = AreBeside Keeps

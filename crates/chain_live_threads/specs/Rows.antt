-- Rows of stages of a chain in two threads. This project's own rule.
use Rattle.std.specs.Prelude.{◌≡◌, List, Bool, true, false}
use Rattle.cell_land.specs.declared.cell_window.Bases.{Bases}
use Rattle.stage_run.specs.Seeing.{Seeing}
use Rattle.chain_model.specs.Each.{Each}
use Rattle.chain_run.specs.Runs.{RunStart}
use Rattle.window_ring.specs.declared.ring.Ring.{Ring}
use Rattle.window_ring.specs.Seats.{key_of, table_of}
use Rattle.chain_threads.specs.Standing.{key_at}
use Rattle.chain_threads.specs.Driving.{AreBeside}
use Rattle.chain_live_threads.specs.declared.live_stage.LiveStage.{LiveStage}
use Rattle.chain_live_threads.specs.declared.round.Round.{Round}
use Rattle.chain_live_threads.specs.declared.round.Round.TheVariants.{Over}
use Rattle.chain_live_threads.specs.Serving.{Serves, Keeps}

-- whether a round tells that all stages had ended
abbrev pub is_over : Round → Bool
is_over Over = true
is_over _ = false

-- all stages of a row have ended, where this is true
unfoldable pub HaveEnded : {S K P : Type 0} → Bool → List (LiveStage S K P) → Type 0
HaveEnded over stages = over ≡ true → Each (λ stage. stage.over ≡ true) stages

module _ {S K P : Type 0} (see : Seeing S K P) (ring : Ring) where
  -- each stage of a row serves one run
  unfoldable pub AreReady : List (LiveStage S K P) → Type 0
  AreReady stages = (begun : RunStart S K) × (base : Bases) × (key_of ring ≡ key_at begun base)
      × Each (Serves see begun base (table_of ring)) stages

  -- each stage of a row is the same and serves on
  abbrev pub Carried : List (LiveStage S K P) → List (LiveStage S K P) → Type 0
  Carried = AreBeside (Keeps see ring)

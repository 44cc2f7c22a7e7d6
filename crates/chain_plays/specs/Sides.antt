-- Two rings whose stages are driven at once: side 0 is the next play's input, which gets as far as it may, and the other side
-- the present play, which comes to its end. This project's own rule.
use Rattle.std.specs.Prelude.{◌≡◌, ℕ, zero, suc, List, length, true}
use Rattle.stage_run.specs.Seeing.{Seeing}
use Rattle.window_ring.specs.declared.ring.Ring.{Ring}
use Rattle.chain_threads.specs.declared.stage.Stage.{Stage}
use Rattle.chain_threads.specs.Driving.{AreReady, Carried, HaveEnded}

module _ {S K P : Type 0} (see : Seeing S K P) (ring next_ring : Ring) where
  -- the stages of a side may be driven
  abbrev pub AreReadyAt : ℕ → List (Stage S K P) → Type 0
  AreReadyAt zero stages = (length stages ≡ 1) × AreReady see next_ring stages
  AreReadyAt (suc side) stages = AreReady see ring stages

  -- they were driven
  abbrev pub WentAt : ℕ → List (Stage S K P) → List (Stage S K P) → Type 0
  WentAt zero old new = Carried see next_ring old new
  WentAt (suc side) old new = Carried see ring old new × HaveEnded true new

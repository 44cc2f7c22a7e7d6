-- Two rings whose stages are driven at once.
use Rattle.std.proofs.Common.{◌≡◌, ℕ, zero, suc, List, true, refl}
use Rattle.stage_run.specs.Seeing.{Seeing}
use Rattle.window_ring.specs.declared.ring.Ring.{Ring}
use Rattle.chain_threads.specs.declared.stage.Stage.{Stage}
use Rattle.chain_threads.specs.Driving.{AreReady, Carried, HaveEnded}
use Rattle.chain_plays.specs.Sides.{AreReadyAt, WentAt}

module _ {S K P : Type 0} (see : Seeing S K P) (ring next_ring : Ring) where
  -- what the other side, that of the present play, asks for and comes to
  pub present-ready : (side : ℕ) (stages : List (Stage S K P)) → (side ≡ 0 → ⊥) → AreReadyAt see ring next_ring side stages → AreReady see ring stages
  present-ready zero stages other ready = absurd (other refl)
  present-ready (suc side) stages other ready = ready

  pub present-went : (side : ℕ) (old new : List (Stage S K P)) → (side ≡ 0 → ⊥) → Carried see ring old new → HaveEnded true new → WentAt see ring next_ring side old new
  present-went zero old new other went ended = absurd (other refl)
  present-went (suc side) old new other went ended = (went, ended)

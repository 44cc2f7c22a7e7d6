-- Stages after the input that were driven on, and what they told meanwhile. This project's own rule.
use Rattle.std.specs.Prelude.{◌≡◌, ℕ, List, length}
use Rattle.cell_land.specs.declared.cell_window.Bases.{Bases}
use Rattle.chain_model.specs.Reports.{NamedRule}
use Rattle.stage_run.specs.Seeing.{Seeing}
use Rattle.chain_rounds.specs.declared.told_line.ToldLine.{ToldLine}
use Rattle.chain_run.specs.Runs.{RunStart, told_to}
use Rattle.window_ring.specs.declared.ring.Ring.{Ring}
use Rattle.window_ring.specs.Seats.{key_of, table_of}
use Rattle.chain_threads.specs.Standing.{key_at}
use Rattle.chain_live_threads.specs.declared.live_stage.LiveStage.{LiveStage}
use Rattle.chain_live_threads.specs.RowTells.{RowHasTold}
use Rattle.chain_live_threads.specs.RowTakes.{RowServes}

module _ {S K P : Type 0} (see : Seeing S K P) (ring : Ring) where
  -- the stages serve a run of this ring, and their lines were taken away up to this position
  unfoldable pub RowReady : ℕ → List (LiveStage S K P) → Type 0
  RowReady told row = (begun : RunStart S K) × (base : Bases) × (key_of ring ≡ key_at begun base)
      × RowServes see (told_to begun (λ _. told)) base (table_of ring) row

  -- however the run began, they serve it on; and whatever they told before, and from whenever on the listener is looked at, they
  -- told more, and the listener heard it
  pub record RowWent {L : Type 0} (hears : L → L → List ToldLine → Type 0) (was now : L) (told told_new : ℕ)
      (row row_new : List (LiveStage S K P)) : Type 0 where
    pub long : length row_new ≡ length row
    pub serves : (begun : RunStart S K) (base : Bases) → key_of ring ≡ key_at begun base
        → RowServes see (told_to begun (λ _. told)) base (table_of ring) row
        → RowServes see (told_to begun (λ _. told_new)) base (table_of ring) row_new
    pub tells : (begun : RunStart S K) (base : Bases) (plugins : List NamedRule) (name_of : ℕ → List ℕ) (first : L)
        → key_of ring ≡ key_at begun base
        → RowHasTold see begun base (table_of ring) plugins name_of hears first was told row
        → RowHasTold see begun base (table_of ring) plugins name_of hears first now told_new row_new

-- All stages of a chain in two threads that were driven until they had ended. This project's own rule.
use Rattle.std.specs.Prelude.{◌≡◌, ℕ, ◌+◌, List, [], ◌∷◌, true, length}
use Rattle.cell_land.specs.declared.cell_window.Bases.{Bases}
use Rattle.atomic_table.specs.Seated.{TableId}
use Rattle.chain_model.specs.Each.{Each}
use Rattle.chain_model.specs.Reports.{NamedRule}
use Rattle.stage_run.specs.Seeing.{Seeing}
use Rattle.chain_rounds.specs.declared.told_line.ToldLine.{ToldLine}
use Rattle.chain_run.specs.Runs.{RunStart, told_to}
use Rattle.window_ring.specs.declared.ring.Ring.{Ring}
use Rattle.window_ring.specs.Seats.{key_of, table_of}
use Rattle.chain_threads.specs.Standing.{key_at}
use Rattle.chain_live_threads.specs.declared.live_stage.LiveStage.{LiveStage}
use Rattle.chain_live_threads.specs.Serving.{Serves}
use Rattle.chain_live_threads.specs.Rows.{HaveEnded}
use Rattle.chain_live_threads.specs.RowTells.{AreNumbered, RowHasTold}

-- the members of a row after the first one
abbrev pub after_first : {X : Type 0} → List X → List X
after_first [] = []
after_first (x ∷ xs) = xs

-- all stages of a run serve, the input first
pub record AllServe {S K P : Type 0} (see : Seeing S K P) (begun : RunStart S K) (base : Bases) (table : TableId)
    (stages : List (LiveStage S K P)) : Type 0 where
  pub numbers : AreNumbered 0 stages
  pub many : length stages ≡ begun.plan.plugins + 2
  pub rules_are : length begun.rules ≡ begun.plan.plugins
  pub serve : Each (Serves see begun base table) stages

module _ {S K P : Type 0} (see : Seeing S K P) (ring : Ring) where
  -- the stages serve a run of this ring, and the lines of its plugins were taken away up to this position
  unfoldable pub AllReady : ℕ → List (LiveStage S K P) → Type 0
  AllReady told stages = (begun : RunStart S K) × (base : Bases) × (key_of ring ≡ key_at begun base)
      × AllServe see (told_to begun (λ _. told)) base (table_of ring) stages

  -- all have ended; however the run began, they served it on; and whatever the stages after the input told before, and from
  -- whenever on the listener is looked at, they told more, and the listener heard it
  pub record AllWent {L : Type 0} (hears : L → L → List ToldLine → Type 0) (was now : L) (told told_new : ℕ)
      (stages stages_new : List (LiveStage S K P)) : Type 0 where
    pub ended : HaveEnded true stages_new
    pub serves : (begun : RunStart S K) (base : Bases) → key_of ring ≡ key_at begun base
        → AllServe see (told_to begun (λ _. told)) base (table_of ring) stages
        → AllServe see (told_to begun (λ _. told_new)) base (table_of ring) stages_new
    pub tells : (begun : RunStart S K) (base : Bases) (plugins : List NamedRule) (name_of : ℕ → List ℕ) (first : L)
        → key_of ring ≡ key_at begun base
        → RowHasTold see begun base (table_of ring) plugins name_of hears first was told (after_first stages)
        → RowHasTold see begun base (table_of ring) plugins name_of hears first now told_new (after_first stages_new)

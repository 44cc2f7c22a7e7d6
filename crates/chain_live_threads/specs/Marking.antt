-- The stage of a plugin that is given its mark, and of which lines are taken away. This project's own rule.
use Rattle.std.specs.Prelude.{◌≡◌, ℕ, suc, ◌<◌, List, take}
use Rattle.ts_packet.specs.declared.cell.Cell.{Cell}
use Rattle.cell_land.specs.declared.cell_window.Bases.{Bases}
use Rattle.atomic_table.specs.Seated.{TableId}
use Rattle.chain_core.specs.ChainRun.{state_after}
use Rattle.chain_model.specs.StageLists.{rule_after}
use Rattle.plugin_trait.specs.PlacedLines.{placed_between}
use Rattle.plugin_trait.specs.declared.line.Line.{Line}
use Rattle.stage_run.specs.Seeing.{Seeing}
use Rattle.stage_run.specs.PartLists.{PartLists}
use Rattle.chain_run.specs.Runs.{RunStart, told_to}
use Rattle.chain_tells.specs.Taking.{met_in}
use Rattle.window_ring.specs.Seats.{seen_of}
use Rattle.chain_live_threads.specs.declared.live_stage.LiveStage.{LiveStage}
use Rattle.chain_live_threads.specs.Serving.{Serves, ServesBy}

-- the stage is the same but for its part
pub record IsSameBesidesPart {S K P : Type 0} (old new : LiveStage S K P) : Type 0 where
  pub seat : new.seat ≡ old.seat
  pub done : new.done ≡ old.done
  pub word : new.word ≡ old.word
  pub over : new.over ≡ old.over
  pub written : new.written ≡ old.written

module _ {S K P : Type 0} (see : Seeing S K P) (begun : RunStart S K) (base : Bases) (table : TableId) where
  -- the stage of the plugin after `j` others
  pub record IsPluginAt (j : ℕ) (stage : LiveStage S K P) : Type 0 where
    pub number : stage.seat.stage ≡ suc j
    pub among : j < begun.plan.plugins

  -- it serves, and its mark is what it knows as written
  pub record IsMarked (stage : LiveStage S K P) : Type 0 where
    pub lists : PartLists
    pub serves : ServesBy see begun base table lists stage
    pub mark_is : lists.mark ≡ stage.written

  -- of the plugin after `j` others these lines were taken away: those from where they were taken before to its mark, by the cells
  -- that it met so far
  pub record GaveLines (j : ℕ) (stage : LiveStage S K P) (lines : List Line) : Type 0 where
    pub history : List Cell
    pub first : take stage.written history
        ≡ take stage.written (met_in (state_after begun.plan (seen_of stage.seat)) j)
    pub lines_are : lines ≡ placed_between (rule_after begun.rules j) history (begun.told j) stage.written

  -- and it serves on, with its lines taken away up to there
  abbrev pub ServesTaken : ℕ → LiveStage S K P → Type 0
  ServesTaken j stage = (told : ℕ → ℕ) → told j ≡ stage.written → Serves see (told_to begun told) base table stage

module _ {S K P : Type 0} (see : Seeing S K P) where
  -- the stage of some plugin, in some run
  abbrev pub MayMark : LiveStage S K P → Type 0
  MayMark stage = (begun : RunStart S K) × (base : Bases) × (table : TableId) × (j : ℕ)
      × IsPluginAt see begun base table j stage × Serves see begun base table stage

  -- the same that has its mark
  abbrev pub MayTake : LiveStage S K P → Type 0
  MayTake stage = (begun : RunStart S K) × (base : Bases) × (table : TableId) × (j : ℕ)
      × IsPluginAt see begun base table j stage × IsMarked see begun base table stage

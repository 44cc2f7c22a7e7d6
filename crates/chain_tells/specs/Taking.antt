-- A chain in one thread of which lines are taken away between two rounds. This project's own rule.
use Rattle.std.specs.Prelude.{◌≡◌, ◌≢◌, ◌<◌, ◌≤◌, ℕ, suc, List, length, take, drop}
use Rattle.ts_packet.specs.declared.cell.Cell.{Cell}
use Rattle.chain_model.specs.StageLists.{rule_after}
use Rattle.chain_core.specs.CoreNumbers.{CoreNumbers}
use Rattle.chain_core.specs.Machine.{ChainState, Visit}
use Rattle.chain_core.specs.ChainRun.{state_after}
use Rattle.plugin_trait.specs.PlacedLines.{placed_between}
use Rattle.plugin_trait.specs.declared.line.Line.{Line}
use Rattle.stage_run.specs.Seeing.{Seeing}
use Rattle.stage_run.specs.PartLists.{PartLists}
use Rattle.stage_run.specs.declared.stage_part.StagePart.{StagePart}
use Rattle.chain_rounds.specs.Told.{told_merged}
use Rattle.chain_rounds.specs.declared.told_line.ToldLine.{ToldLine}
use Rattle.chain_run.specs.Runs.{RunStart, told_to}
use Rattle.chain_run.specs.Working.{IsRunning}

-- the cells that the plugin after `j` others met: as many as its stage gave of those that the stage before gave
abbrev pub met_in : ChainState → ℕ → List Cell
met_in state j = take (length (state.stages (suc j)).given) (state.stages j).given

module _ {S K P : Type 0} (see : Seeing S K P) (begun : RunStart S K) (visits : List Visit) where
  -- the chain still stands after these visits; the lines of its plugins were taken away up to these positions
  pub record StillRuns (told : ℕ → ℕ) (core : CoreNumbers) (parts : List (StagePart S K P)) (cells : List Cell) : Type 0 where
    pub now : IsRunning see (told_to begun told) core parts cells
    pub visits_are : now.runs.visits ≡ visits

  module _ (lists : ℕ → PartLists) where
    -- the plugin after `j` others was given the mark `written`, and the others what they were
    pub record Marks (j written : ℕ) (core : CoreNumbers) (parts : List (StagePart S K P)) (cells : List Cell) : Type 0 where
      pub runs : StillRuns begun.told core parts cells
      pub own : (runs.now.runs.lists (suc j)).mark ≡ written
      pub others : (i : ℕ) → i ≢ j → (runs.now.runs.lists (suc i)).mark ≡ (lists (suc i)).mark

    -- of the plugin after `j` others these lines were taken away: those at the positions below `written` that were not before
    pub record GivesLines (j written : ℕ) (lines : List Line) (core : CoreNumbers) (parts : List (StagePart S K P))
        (cells : List Cell) : Type 0 where
      pub told : ℕ → ℕ
      pub others : (i : ℕ) → i ≢ j → told i ≡ begun.told i
      pub own : told j ≡ written
      pub runs : StillRuns told core parts cells
      pub marks : (i : ℕ) → i ≢ j → (runs.now.runs.lists (suc i)).mark ≡ (lists (suc i)).mark
      pub lines_are : lines
          ≡ placed_between (rule_after begun.rules j) (met_in (state_after begun.plan visits) j) (begun.told j) written

    -- the same of all plugins from the one after `j` others on: their lines are one row
    pub record TakesLines (j written : ℕ) (lines : List ToldLine) (core : CoreNumbers) (parts : List (StagePart S K P))
        (cells : List Cell) : Type 0 where
      pub told : ℕ → ℕ
      pub others : (i : ℕ) → i < j → told i ≡ begun.told i
      pub own : (i : ℕ) → j ≤ i → i < begun.plan.plugins → told i ≡ written
      pub runs : StillRuns told core parts cells
      pub marks : (i : ℕ) → i < j → (runs.now.runs.lists (suc i)).mark ≡ (lists (suc i)).mark
      pub lines_are : (from : ℕ) → ((i : ℕ) → j ≤ i → i < begun.plan.plugins → begun.told i ≡ from)
          → lines ≡ told_merged (met_in (state_after begun.plan visits)) from written j (drop j begun.rules)

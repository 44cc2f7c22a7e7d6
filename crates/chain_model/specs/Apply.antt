-- What a plugin makes of a list of cells, position by position. This project's own rule.
use Rattle.std.specs.Prelude.{ℕ, List, [], ◌∷◌, ◌++◌, Option, None, Some}
use Rattle.ts_packet.specs.declared.cell.Cell.{Cell}
use Rattle.ts_packet.specs.Cells.{Live, Dropped}
use Rattle.chain_model.specs.declared.reason.Reason.{Reason}
use Rattle.chain_model.specs.declared.input_end.InputEnd.{InputEnd}
use Rattle.chain_model.specs.PluginRule.{PluginRule, RuleOutcome, passes, drops, lasts, stops, refuses}

-- how a stage ends its own list
pub data OwnEnd : Type 0 where
  -- the input has no further packet
  input_over : (how : InputEnd) → OwnEnd
  -- a plugin passed its last packet
  last_passed : OwnEnd
  -- a plugin stopped before a packet
  stopped : OwnEnd
  -- a plugin refused a packet
  refused : (reason : Reason) → OwnEnd

-- the list that a stage gives, and how the stage ended it, where it did not just follow the list before
pub record StageList : Type 0 where
  pub cells : List Cell
  pub ended : Option OwnEnd

-- what becomes of a cell at a plugin: the list goes on with a cell, or ends after it, or ends before it
pub data CellOutcome : Type 0 where
  goes_on : (cell : Cell) → CellOutcome
  ends_after : (cell : Cell) → CellOutcome
  ends_before : (how : OwnEnd) → CellOutcome

-- what a rule's outcome for a live packet makes of its cell, which then has these labels
abbrev pub outcome_of_live : RuleOutcome → ℕ → CellOutcome
outcome_of_live (passes packet) labels = goes_on (Live packet labels)
outcome_of_live drops labels = goes_on Dropped
outcome_of_live (lasts packet) labels = ends_after (Live packet labels)
outcome_of_live stops labels = ends_before stopped
outcome_of_live (refuses reason) labels = ends_before (refused reason)

-- a dropped cell stays dropped, and a plugin does not see it
abbrev pub became : PluginRule → List Cell → Cell → CellOutcome
became rule history (Live packet labels) =
    outcome_of_live (rule.outcome_of history packet labels) (rule.labels_of history packet labels)
became rule history Dropped = goes_on Dropped

-- the list that begins with what became of a cell; `rest` is the list where it goes on
abbrev pub onto : CellOutcome → StageList → StageList
onto (goes_on cell) rest = record { cells = cell ∷ rest.cells; ended = rest.ended }
onto (ends_after cell) rest = record { cells = cell ∷ []; ended = Some last_passed }
onto (ends_before how) rest = record { cells = []; ended = Some how }

-- what the plugin makes of the cells that follow a history
abbrev pub apply_after : PluginRule → List Cell → List Cell → StageList
apply_after rule history [] = record { cells = []; ended = None }
apply_after rule history (cell ∷ cells) =
    onto (became rule history cell) (apply_after rule (history ++ cell ∷ []) cells)

-- what the plugin makes of a list of cells
abbrev pub apply : PluginRule → List Cell → StageList
apply rule cells = apply_after rule [] cells

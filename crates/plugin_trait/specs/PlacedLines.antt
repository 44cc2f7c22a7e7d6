-- The lines that a plugin reports, each with its position. This project's own rule.
use Rattle.std.specs.Prelude.{◌≡◌, ℕ, List, [], ◌∷◌, ◌++◌, map, length, take, drop}
use Rattle.ts_packet.specs.declared.cell.Cell.{Cell}
use Rattle.ts_packet.specs.Cells.{Live, Dropped}
use Rattle.chain_model.specs.PluginRule.{PluginRule}
use Rattle.plugin_trait.specs.declared.line.Line.{Line}

-- texts as lines at one position
abbrev pub placed_at : ℕ → List (List ℕ) → List Line
placed_at position texts = map (λ text. record { at = position; text = text }) texts

-- the lines of a rule on the live cells after a history, each at its cell's position
abbrev pub placed_after : PluginRule → List Cell → List Cell → List Line
placed_after rule history [] = []
placed_after rule history (Live packet labels ∷ cells) =
    placed_at (length history) (rule.lines_of history packet labels)
    ++ placed_after rule (history ++ Live packet labels ∷ []) cells
placed_after rule history (Dropped ∷ cells) = placed_after rule (history ++ Dropped ∷ []) cells

-- the lines of a rule at the positions from one up to another, of the cells that were met
abbrev pub placed_between : PluginRule → List Cell → ℕ → ℕ → List Line
placed_between rule history from to = placed_after rule (take from history) (drop from (take to history))

-- all that a plugin reports of the cells that count: its lines, then its summary at their end
abbrev pub placed_of : PluginRule → List Cell → List Line
placed_of rule cells = placed_after rule [] cells ++ placed_at (length cells) (rule.summary_of cells)

-- a rule that has neither lines nor a summary
pub record IsSilent (rule : PluginRule) : Type 0 where
  pub no_lines : (history : List Cell) (packet : List ℕ) (labels : ℕ)
      → rule.lines_of history packet labels ≡ []
  pub no_summary : (history : List Cell) → rule.summary_of history ≡ []

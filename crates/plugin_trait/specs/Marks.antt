-- Marks: the positions below a mark are written and stay. This project's own rule.
use Rattle.std.specs.Prelude.{◌≡◌, ℕ, ◌≤◌, List, [], ◌++◌, length, Result, is_ok, if◌then◌else◌}
use Rattle.ts_packet.specs.declared.cell.Cell.{Cell}
use Rattle.chain_model.specs.PluginRule.{PluginRule}
use Rattle.plugin_trait.specs.PlacedLines.{placed_between}
use Rattle.plugin_trait.specs.declared.line.Line.{Line}
use Rattle.std.specs.declared.alloc.AllocError.{AllocError}

-- a plugin that may be given this mark, or cut
pub record AllowsMark (stands : List Cell → ℕ → Type 0) (written : ℕ) : Type 0 where
  pub history : List Cell
  pub mark : ℕ
  pub holds : stands history mark
  pub not_below : mark ≤ written
  pub met : written ≤ length history

-- after it was given, the plugin stands for the same cells with this mark, and gave out the lines from the mark before it on;
-- or it stands for what it stood for and gave none, where memory ran out
abbrev pub GivesLines : PluginRule → (List Cell → ℕ → Type 0) → (List Cell → ℕ → Type 0) → ℕ → List Line → List Line
    → Result Unit AllocError → Type 0
GivesLines rule old new written before after answer =
    (history : List Cell) (mark : ℕ) → old history mark → mark ≤ written → written ≤ length history
    → new history (if is_ok answer then written else mark)
    × (after ≡ before ++ (if is_ok answer then placed_between rule history mark written else []))

-- What a plugin with the lines that it gave out stands for. This project's own rule.
use Rattle.std.specs.Prelude.{◌≡◌, ℕ, List, [], take}
use Rattle.ts_packet.specs.declared.cell.Cell.{Cell}
use Rattle.chain_model.specs.PluginRule.{PluginRule}
use Rattle.plugin_trait.specs.PlacedLines.{placed_after}
use Rattle.plugin_trait.specs.declared.heard.Heard.{Heard}

-- the plugin stands for the cells and the mark, and its lines are those of the cells below the mark
pub record HeardStands {P : Type 0} (rule : P → PluginRule) (stands : P → List Cell → ℕ → Type 0) (heard : Heard P)
    (history : List Cell) (mark : ℕ) : Type 0 where
  pub holds : stands heard.plugin history mark
  pub lines : heard.lines.items ≡ placed_after (rule heard.plugin) [] (take mark history)

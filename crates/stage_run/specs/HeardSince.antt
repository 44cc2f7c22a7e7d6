-- What a plugin stands for of which lines were taken away. This project's own rule.
use Rattle.std.specs.Prelude.{◌≡◌, ◌≤◌, ℕ, List}
use Rattle.ts_packet.specs.declared.cell.Cell.{Cell}
use Rattle.chain_model.specs.PluginRule.{PluginRule}
use Rattle.plugin_trait.specs.PlacedLines.{placed_between}
use Rattle.plugin_trait.specs.declared.heard.Heard.{Heard}

-- the plugin stands for the cells and the mark; of the lines of the cells below the mark it has those from position `from` on
pub record HeardSince {P : Type 0} (rule : P → PluginRule) (stands : P → List Cell → ℕ → Type 0) (from : ℕ) (heard : Heard P)
    (history : List Cell) (mark : ℕ) : Type 0 where
  pub holds : stands heard.plugin history mark
  pub lines : heard.lines.items ≡ placed_between (rule heard.plugin) history from mark
  pub taken : from ≤ mark

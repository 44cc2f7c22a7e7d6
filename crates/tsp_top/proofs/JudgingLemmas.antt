-- A plugin that was told the cut of its run.
use Rattle.std.proofs.Common.{◌≡◌, ℕ, ◌≤◌, List, [], ◌++◌, take, ap, sym, ◌∙◌}
use Rattle.ts_packet.specs.declared.cell.Cell.{Cell}
use Rattle.chain_model.specs.PluginRule.{PluginRule}
use Rattle.plugin_trait.specs.HeardStands.{HeardStands}
use Rattle.plugin_trait.specs.PlacedLines.{placed_after, placed_between}
use Rattle.plugin_trait.specs.declared.heard.Heard.{Heard}
use Rattle.plugin_trait.specs.declared.line.Line.{Line}
use Rattle.plugin_trait.proofs.Giving.{given_out}

-- it gave out its lines up to there, and stands for the same cells
pub told-stands : {P : Type 0} (rule : P → PluginRule) (stands : P → List Cell → ℕ → Type 0) (old new : Heard P) (history : List Cell) (mark cut : ℕ)
    → mark ≤ cut → HeardStands rule stands old history mark → rule new.plugin ≡ rule old.plugin → stands new.plugin history cut
    → new.lines.items ≡ old.lines.items ++ placed_between (rule old.plugin) history mark cut → HeardStands rule stands new history cut
told-stands rule stands old new history mark cut le heard same holds given = record {
  holds = holds;
  lines = given
      ∙ (ap (λ (xs : List Line). xs ++ placed_between (rule old.plugin) history mark cut) heard.lines
      ∙ (given_out (rule old.plugin) history mark cut le
      ∙ ap (λ (r : PluginRule). placed_after r [] (take cut history)) (sym same)));
}

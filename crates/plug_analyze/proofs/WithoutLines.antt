-- Rules that have no lines, but at most a summary.
use Rattle.std.proofs.Common.{◌≡◌, ℕ, List, [], ◌∷◌, ◌++◌, length, take, drop, ap, sym, ◌∙◌, refl, append-nil}
use Rattle.ts_packet.specs.declared.cell.Cell.{Cell}
use Rattle.ts_packet.specs.Cells.{Live, Dropped}
use Rattle.chain_model.specs.PluginRule.{PluginRule}
use Rattle.plugin_trait.specs.declared.line.Line.{Line}
use Rattle.plugin_trait.specs.PlacedLines.{placed_after, placed_at, placed_between}

module _ (rule : PluginRule) (without : (history : List Cell) (packet : List ℕ) (labels : ℕ) → rule.lines_of history packet labels ≡ []) where
  -- they have none on any cells
  pub placed_after_without_lines : (history cells : List Cell) → placed_after rule history cells ≡ []
  placed_after_without_lines history [] = refl
  placed_after_without_lines history (Live packet labels ∷ cells) =
      ap (λ (texts : List (List ℕ)). placed_at (length history) texts ++ placed_after rule (history ++ Live packet labels ∷ []) cells) (without history packet labels)
      ∙ placed_after_without_lines (history ++ Live packet labels ∷ []) cells
  placed_after_without_lines history (Dropped ∷ cells) = placed_after_without_lines (history ++ Dropped ∷ []) cells

  -- where none were appended, those from one mark to the next were
  pub none_between : (history : List Cell) (from to : ℕ) (lines : List Line) → lines ≡ lines ++ placed_between rule history from to
  none_between history from to lines =
      sym (append-nil lines) ∙ ap (λ (given : List Line). lines ++ given) (sym (placed_after_without_lines (take from history) (drop from (take to history))))

-- Lines with their positions and lines without them.
use Rattle.std.proofs.Common.{◌≡◌, ℕ, List, [], ◌∷◌, ◌++◌, length, map, ap, ◌∙◌, refl}
use Rattle.ts_packet.specs.declared.cell.Cell.{Cell}
use Rattle.ts_packet.specs.Cells.{Live, Dropped}
use Rattle.chain_model.specs.PluginRule.{PluginRule}
use Rattle.chain_model.specs.Reports.{lines_after}
use Rattle.plugin_trait.specs.declared.line.Line.{Line}
use Rattle.plugin_trait.specs.PlacedLines.{placed_at, placed_after, IsSilent}

-- the text of a line
abbrev pub text_of : Line → List ℕ
text_of line = line.text

-- the texts of lines at one position
pub texts-placed_at : (position : ℕ) (texts : List (List ℕ)) → map text_of (placed_at position texts) ≡ texts
texts-placed_at position [] = refl
texts-placed_at position (text ∷ texts) = ap (λ (rest : List (List ℕ)). text ∷ rest) (texts-placed_at position texts)

-- the texts of two lists of lines
pub texts-append : (xs ys : List Line) → map text_of (xs ++ ys) ≡ map text_of xs ++ map text_of ys
texts-append [] ys = refl
texts-append (x ∷ xs) ys = ap (λ (rest : List (List ℕ)). text_of x ∷ rest) (texts-append xs ys)

-- the texts of the lines on the cells after a history
pub texts-placed_after : (rule : PluginRule) (history cells : List Cell) → map text_of (placed_after rule history cells) ≡ lines_after rule history cells
texts-placed_after rule history [] = refl
texts-placed_after rule history (Live packet labels ∷ cells) =
    texts-append (placed_at (length history) (rule.lines_of history packet labels)) (placed_after rule (history ++ Live packet labels ∷ []) cells)
    ∙ (ap (λ (texts : List (List ℕ)). texts ++ map text_of (placed_after rule (history ++ Live packet labels ∷ []) cells)) (texts-placed_at (length history) (rule.lines_of history packet labels))
    ∙ ap (λ (texts : List (List ℕ)). rule.lines_of history packet labels ++ texts) (texts-placed_after rule (history ++ Live packet labels ∷ []) cells))
texts-placed_after rule history (Dropped ∷ cells) = texts-placed_after rule (history ++ Dropped ∷ []) cells

-- a silent rule has no line on any cell
pub silent-placed_after : (rule : PluginRule) (history cells : List Cell) → IsSilent rule → placed_after rule history cells ≡ []
silent-placed_after rule history [] silent = refl
silent-placed_after rule history (Live packet labels ∷ cells) silent =
    ap (λ (texts : List (List ℕ)). placed_at (length history) texts ++ placed_after rule (history ++ Live packet labels ∷ []) cells) (silent.no_lines history packet labels)
    ∙ silent-placed_after rule (history ++ Live packet labels ∷ []) cells silent
silent-placed_after rule history (Dropped ∷ cells) silent = silent-placed_after rule (history ++ Dropped ∷ []) cells silent

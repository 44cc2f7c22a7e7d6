-- What is printed in a round: the lines that the plugins gave out, as one row. This project's own rule.
use Rattle.std.specs.Prelude.{◌≡◌, ℕ, suc, List, [], ◌∷◌, map}
use Rattle.ts_packet.specs.declared.cell.Cell.{Cell}
use Rattle.chain_model.specs.Reports.{NamedRule}
use Rattle.chain_live.specs.LiveReports.{LiveLine}
use Rattle.chain_rounds.specs.Merged.{merged}
use Rattle.plugin_trait.specs.PlacedLines.{placed_between}
use Rattle.chain_rounds.specs.Told.{told}

-- the position of a line
abbrev pub place : LiveLine → ℕ
place line = line.at

-- the lines that these plugins gave out from one mark to another, merged; the first of them comes after `j` others
abbrev pub rows_merged : (ℕ → List Cell) → ℕ → ℕ → ℕ → List NamedRule → List LiveLine
rows_merged met from to j [] = []
rows_merged met from to j (plugin ∷ rest) =
    merged place (map (told j plugin.name) (placed_between plugin.rule (met j) from to)) (rows_merged met from to (suc j) rest)

-- plugins have these names by their numbers; the first of them comes after `j` others
abbrev pub AreNames : (ℕ → List ℕ) → ℕ → List NamedRule → Type 0
AreNames name_of j [] = Unit {0}
AreNames name_of j (plugin ∷ rest) = (name_of (suc j) ≡ plugin.name) × AreNames name_of (suc j) rest

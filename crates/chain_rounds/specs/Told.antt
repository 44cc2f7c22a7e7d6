-- A line that a plugin gave out, as it is printed. This project's own rule.
use Rattle.std.specs.Prelude.{ℕ, suc, List, [], ◌∷◌, map}
use Rattle.ts_packet.specs.declared.cell.Cell.{Cell}
use Rattle.chain_model.specs.PluginRule.{PluginRule}
use Rattle.plugin_trait.specs.PlacedLines.{placed_between}
use Rattle.plugin_trait.specs.declared.line.Line.{Line}
use Rattle.chain_live.specs.LiveReports.{LiveLine}
use Rattle.chain_rounds.specs.declared.told_line.ToldLine.{ToldLine}
use Rattle.chain_rounds.specs.Merged.{merged}

-- a line of the plugin after `j` others, with its name
abbrev pub told : ℕ → List ℕ → Line → LiveLine
told j name line = record { at = line.at; plugin = suc j; name = name; text = line.text }

-- the position of a line
abbrev pub place_of : ToldLine → ℕ
place_of one = one.line.at

-- a line of the plugin of this number
abbrev pub told_by : ℕ → Line → ToldLine
told_by n line = record { plugin = n; line = line }

-- the lines that plugins with these rules gave out from one mark to another, merged; the first of them comes after `j` others
abbrev pub told_merged : (ℕ → List Cell) → ℕ → ℕ → ℕ → List PluginRule → List ToldLine
told_merged met from to j [] = []
told_merged met from to j (rule ∷ rest) =
    merged place_of (map (told_by (suc j)) (placed_between rule (met j) from to)) (told_merged met from to (suc j) rest)

-- a line as it is printed, where plugins have these names by their numbers
abbrev pub shown : (ℕ → List ℕ) → ToldLine → LiveLine
shown name_of one = record { at = one.line.at; plugin = one.plugin; name = name_of one.plugin; text = one.line.text }

-- What a value of `tables` keeps. This project's own rule.
use Rattle.std.specs.Prelude.{◌≡◌, ◌≤◌, ℕ, List, [], ◌∷◌, length}
use Rattle.ts_packet.specs.declared.cell.Cell.{Cell}
use Rattle.ts_packet.specs.Cells.{live_packets}
use Rattle.plugin_trait.specs.declared.line.Line.{Line}
use Rattle.plugin_trait.specs.PlacedLines.{placed_between}
use Rattle.plug_tables.specs.TablesRule.{rule_with}
use Rattle.plug_tables.specs.TableReaderState.{HasMet, choice_in}
use Rattle.plug_tables.specs.declared.table_reader.TableReader.{TableReader}

-- the first line, if there is one, is not below the position
abbrev pub StartsFrom : ℕ → List Line → Type 0
StartsFrom cut [] = Unit {0}
StartsFrom cut (line ∷ lines) = cut ≤ line.at

-- the packets of the cells were processed, and their lines from the mark on are kept
pub record TellsTables (reader : TableReader) (tids : List (ℕ × ℕ)) (told : List Line) (history : List Cell) (mark : ℕ) : Type 0 where
  pub met : HasMet reader (live_packets history)
  pub lines : told ≡ placed_between (rule_with (choice_in reader) tids) history mark (length history)
  pub marked : mark ≤ length history

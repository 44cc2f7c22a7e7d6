use Rattle.std.proofs.Common.{◌≡◌, drop, map}
use Rattle.ts_charsets.specs.TextTables.{selected_in, text_table}
use Rattle.ts_charsets.proofs.text_table.find_selected.Given as goal

-- the result follows from the remaining tables
abbrev pub invariant-loop-table : goal.invariant-loop-table
invariant-loop-table l = selected_in (map text_table (drop l.table-index l.tables)) l.bytes ≡ selected_in (map text_table l.tables) l.bytes

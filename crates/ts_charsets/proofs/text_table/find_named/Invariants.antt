use Rattle.std.proofs.Common.{◌≡◌, drop, map}
use Rattle.ts_charsets.specs.TextTables.{named_in, text_table}
use Rattle.ts_charsets.proofs.text_table.find_named.Given as goal

-- the result follows from the remaining tables
abbrev pub invariant-loop-table : goal.invariant-loop-table
invariant-loop-table l = named_in (map text_table (drop l.table-index l.tables)) l.name ≡ named_in (map text_table l.tables) l.name

use Rattle.std.proofs.Common.{◌≡◌, ◌++◌, take}
use Rattle.plugin_trait.specs.PlacedLines.{placed_at}
use Rattle.plug_tables.specs.TablesRule.{table_texts}
use Rattle.plug_tables.proofs.telling.tell_tables.Given as goal

abbrev pub invariant-loop-table : goal.invariant-loop-table
invariant-loop-table l = l.told.items ≡ l.fn.told.items ++ placed_at l.at (table_texts l.tids l.at l.pid (take l.table-index l.tables))

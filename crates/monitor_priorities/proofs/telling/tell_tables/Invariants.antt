use Rattle.std.proofs.Common.{◌≡◌, ◌++◌, drop, map}
use Rattle.monitor_priorities.specs.RowErrors.{table_error}
use Rattle.monitor_priorities.proofs.telling.tell_tables.Given as goal

-- the errors so far and those of the table_ids that are left
abbrev pub invariant-loop-table : goal.invariant-loop-table
invariant-loop-table l =
    l.errors.items ++ map (table_error l.indicator l.at) (drop l.table-index l.tables) ≡ l.fn.errors.items ++ map (table_error l.indicator l.at) l.tables

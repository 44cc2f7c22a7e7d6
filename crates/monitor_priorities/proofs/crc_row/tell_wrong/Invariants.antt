use Rattle.std.proofs.Common.{◌≡◌, ◌++◌, drop, map}
use Rattle.monitor_priorities.specs.RowErrors.{crc_error}
use Rattle.monitor_priorities.proofs.crc_row.tell_wrong.Given as goal

-- the errors so far and those of the table_ids that are left
abbrev pub invariant-loop-table : goal.invariant-loop-table
invariant-loop-table l =
    l.errors.items ++ map (crc_error l.at l.pid) (drop l.table-index l.tables) ≡ l.fn.errors.items ++ map (crc_error l.at l.pid) l.tables

-- What was read of a run of sections, if it is current.
-- ISO/IEC 13818-1, 2.4.4: a table whose current_next_indicator is 1 applies now, and any other one is the next to apply.
use Rattle.std.specs.Prelude.{Option, Some, None, Result, Ok, Err, if◌then◌else◌}
use Rattle.ts_table_rows.specs.RunReading.{FirstBroken}
use Rattle.ts_table_rows.specs.TableValues.{TableHolding}

-- what was read of a table, if it reads and is current
abbrev pub current_in : Result TableHolding FirstBroken → Option TableHolding
current_in (Ok table) = if table.head.current then Some table else None
current_in (Err fault) = None

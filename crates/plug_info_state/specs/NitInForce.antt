-- The NIT in force of the actual network. ETSI EN 300 468, 5.1.3 and 5.2.1: NITs are on PID 16, and that of the actual
-- network has table_id 0x40. Which table counts is this project's own rule, the same as for a PAT.
use Rattle.std.specs.Prelude.{ℕ, ◌==◌, List, Option, None, Some, if◌then◌else◌}
use Rattle.ts_demux.specs.TablesOn.{tables_on}
use Rattle.ts_table_rows.specs.RunReading.{read_run}
use Rattle.ts_table_rows.specs.TableValues.{TableHolding}
use Rattle.ts_table_pages.specs.SiPages.{nit_page}
use Rattle.plug_psi.specs.CurrentTables.{current_in}
use Rattle.plug_psi.specs.LastFound.{last_found}

-- a NIT, if it is of the actual network
abbrev pub of_actual_network : Option TableHolding → Option TableHolding
of_actual_network None = None
of_actual_network (Some nit) = if nit.head.table_id == 0x40 then Some nit else None

-- the NIT of the actual network that a table is, if it reads as one and is current
abbrev pub current_nit : List (List ℕ) → Option TableHolding
current_nit run = of_actual_network (current_in (read_run nit_page run))

-- The NIT in force after some packets of any PID: the last complete table on PID 16 that is a current NIT of the actual
-- network.
unfoldable pub nit_of : List (List ℕ) → Option TableHolding
nit_of packets = last_found current_nit (tables_on 16 packets)

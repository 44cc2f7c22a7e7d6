-- The BAT in force of a bouquet. ETSI EN 300 468, 5.1.3 and 5.2.2: BATs are on PID 17 with table_id 0x4A, and the
-- bouquet_id is the table_id_extension. Which table counts is this project's own rule, the same as for a PAT.
use Rattle.std.specs.Prelude.{ℕ, List, Option}
use Rattle.ts_demux.specs.TablesOn.{tables_on}
use Rattle.ts_table_rows.specs.RunReading.{read_run}
use Rattle.ts_table_rows.specs.TableValues.{TableHolding}
use Rattle.ts_table_pages.specs.SiPages.{bat_page}
use Rattle.plug_psi.specs.CurrentTables.{current_in}
use Rattle.plug_psi.specs.LastFound.{last_found}
use Rattle.named_services.specs.SdtInForce.{of_extension}

-- the BAT of a bouquet that a table is, if it reads as one and is current
abbrev pub current_bat_of : ℕ → List (List ℕ) → Option TableHolding
current_bat_of id run = of_extension id (current_in (read_run bat_page run))

-- The BAT in force of a bouquet after some packets of any PID: the last complete table on PID 17 that is a current BAT of
-- this bouquet.
unfoldable pub bat_of : ℕ → List (List ℕ) → Option TableHolding
bat_of id packets = last_found (current_bat_of id) (tables_on 17 packets)

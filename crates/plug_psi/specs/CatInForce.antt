-- The CAT in force.
-- ISO/IEC 13818-1, 2.4.4.6: the CAT is on PID 1. Which table counts is this project's own rule, the same as for a PAT.
use Rattle.std.specs.Prelude.{ℕ, List, Option}
use Rattle.ts_demux.specs.TablesOn.{tables_on}
use Rattle.ts_table_rows.specs.TableValues.{TableHolding}
use Rattle.ts_psi.specs.CatTables.{read_cat}
use Rattle.plug_psi.specs.CurrentTables.{current_in}
use Rattle.plug_psi.specs.LastFound.{last_found}

-- the CAT that a table is, if it reads as one and is current
abbrev pub current_cat : List (List ℕ) → Option TableHolding
current_cat run = current_in (read_cat run)

-- The CAT in force after some packets of any PID: the last complete table on PID 1 that is current and reads as a CAT.
unfoldable pub cat_of : List (List ℕ) → Option TableHolding
cat_of packets = last_found current_cat (tables_on 1 packets)

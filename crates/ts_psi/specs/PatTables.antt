-- A PAT as a table.
-- ISO/IEC 13818-1, 2.4.4.3 to 2.4.4.5: program_number 0 has the network PID. That the network entry is listed first
-- is this project's own rule.
use Rattle.std.specs.Prelude.{ℕ, List, [], ◌++◌, map, Bool, not, ◌&&◌, None, Result, Ok}
use Rattle.ts_table_rows.specs.TableValues.{ItemHolding, TableHolding}
use Rattle.ts_table_rows.specs.RunReading.{FirstBroken, read_run, ◌>>=◌}
use Rattle.ts_table_pages.specs.PsiPages.{entry_page, pat_page}
pub use Rattle.ts_table_pages.specs.PatEntries.{entry_item, network_items, is_network, ordered}
use Rattle.ts_table_rows.specs.TableFitting.{item_fits}
use Rattle.ts_psi.specs.declared.pat.PatService.{PatService}
use Rattle.ts_psi.specs.declared.pat.Pat.{Pat}

-- a service as an entry
abbrev pub service_item : PatService → ItemHolding
service_item s = entry_item s.service_id s.pid

-- a PAT as a table, the network entry first
abbrev pub pat_held : Pat → TableHolding
pat_held p = record {
  head = record { table_id = 0x00; extension = p.stream_id; version = p.version; current = p.current; numbers = None };
  body = record { values = []; descriptors = []; items = network_items p.network_pid ++ map service_item p.services };
}

-- an entry of a service
abbrev pub service_serves : ItemHolding → Bool
service_serves x = item_fits entry_page x && not (is_network x)

-- a table as that of a PAT, the network entry first
abbrev pub pat_table : TableHolding → TableHolding
pat_table t = record {
  head = record { table_id = 0x00; extension = t.head.extension; version = t.head.version; current = t.head.current; numbers = None };
  body = record { values = []; descriptors = []; items = ordered t.body.items };
}

-- the PAT of a run, or the first rule that it breaks
abbrev pub read_pat : List (List ℕ) → Result TableHolding FirstBroken
read_pat run = do
  t ← read_run pat_page run
  Ok (pat_table t)

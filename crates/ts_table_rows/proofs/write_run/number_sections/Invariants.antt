use Rattle.std.proofs.Common.{◌≡◌, ◌≤◌, ◌+◌, ◌++◌, length, drop}
use Rattle.ts_table_rows.specs.TablePages.{table_page}
use Rattle.ts_table_rows.specs.TableSections.{numbered}
use Rattle.ts_table_rows.proofs.NumberLemmas.{rows_in}
use Rattle.ts_table_rows.proofs.write_run.number_sections.Given as goal

abbrev pub invariant-loop-body : goal.invariant-loop-body
invariant-loop-body l = record {
  counted : l.number ≡ l.first + l.body-index;
  room : l.first + length l.bodies ≤ l.last + 1;
  written : l.sections.items ++ numbered (table_page l.layout) l.head l.last l.number (rows_in (drop l.body-index l.bodies)) ≡ numbered (table_page l.layout) l.head l.last l.first (rows_in l.bodies);
}

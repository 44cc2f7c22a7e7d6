-- The table that a table's sections give.
-- This project's own rule: the sections of a table give it again as it was, except those of a table given by its bytes,
-- of the long form, that read as the table of their table_id: they give that one.
use Rattle.std.specs.Prelude.{◌≡◌, ℕ, List, Option, Some, None, Result, Ok, Err, All}
use Rattle.ts_section.specs.ValidSection.{IsSection}
use Rattle.ts_section.specs.SectionRun.{IsTableRun}
use Rattle.ts_table_rows.specs.RunReading.{FirstBroken, read_run}
use Rattle.ts_table_rows.specs.TablePages.{TablePage}
use Rattle.ts_table_rows.specs.TableValues.{TableHolding}
use Rattle.ts_json_tables.specs.HeldTables.{LongHolding, TableValue, laid, short, long}
use Rattle.ts_json_tables.specs.KnownPages.{page_with_id}
use Rattle.ts_json_tables.specs.RunTables.{long_sections, sections_of_table, settled, table_of_run}

-- the table of sections of the long form that were read by a page
abbrev pub laid_or_long : TablePage → Result TableHolding FirstBroken → LongHolding → TableValue
laid_or_long p (Ok t) l = laid p (settled p t)
laid_or_long p (Err fault) l = long l

-- the table of sections of the long form whose table_id has this page
abbrev pub long_by_page : Option TablePage → LongHolding → TableValue
long_by_page None l = long l
long_by_page (Some p) l = laid_or_long p (read_run p (long_sections l)) l

-- the table that a table's sections give
abbrev pub told_again : TableValue → TableValue
told_again (laid p t) = laid p t
told_again (short s) = short s
told_again (long l) = long_by_page (page_with_id l.table_id) l

-- the sections are valid, are the whole run of one table, and give this table
pub record TellsTable (t : TableValue) (run : List (List ℕ)) : Type 0 where
  pub valid : All (λ s. IsSection s) run
  pub whole : IsTableRun run
  pub table : table_of_run run ≡ t

-- the sections of a run's table, where it has some, give the same table
abbrev pub IsKept : List (List ℕ) → Type 0
IsKept run = (ss : List (List ℕ)) → sections_of_table (table_of_run run) ≡ Ok ss → TellsTable (table_of_run run) ss

-- Sections written as JSON.
-- This project's own rule: the bytes are sections, the sections are runs of tables, and the text is the compact one of
-- an element `tsduck` whose children are the tables' elements in order.
use Rattle.std.specs.Prelude.{◌≡◌, ℕ, List, [], map, Result, Ok, Err, Some}
use Rattle.serde_json.specs.Data.{Data, object, array}
use Rattle.serde_json.specs.View.{items_of}
use Rattle.serde_json.specs.Written.{compact_text}
use Rattle.ts_jtree.specs.Shown.{element_members}
use Rattle.ts_json_tables.specs.HeldTables.{TableValue}
use Rattle.ts_json_tables.specs.RunTables.{table_of_run}
use Rattle.ts_json_tables.specs.TableElements.{table_shown}
use Rattle.ts_json_tables.specs.TableReading.{table_read}
use Rattle.tabcomp_core.specs.declared.fault.DecompileFault.{DecompileFault}
use Rattle.tabcomp_core.specs.Compiling.{root_name}
use Rattle.tabcomp_core.specs.TableRuns.{table_runs}

-- the element of the root
abbrev pub root_shown : List TableValue → Data
root_shown tables = object (element_members [] root_name (Some (array (items_of (map table_shown tables)))) [])

-- the text of some tables
abbrev pub tables_text : List TableValue → List ℕ
tables_text tables = compact_text (root_shown tables)

-- the text of the tables of runs, or the fault
abbrev pub text_or_fault : Result (List (List (List ℕ))) DecompileFault → Result (List ℕ) DecompileFault
text_or_fault (Ok runs) = Ok (tables_text (map table_of_run runs))
text_or_fault (Err fault) = Err fault

-- what bytes are decompiled to: the text of the tables of their runs
abbrev pub decompiled : List ℕ → Result (List ℕ) DecompileFault
decompiled bytes = text_or_fault (table_runs bytes)

-- the element of a run's table is read as that table
abbrev pub IsReadAgain : List (List ℕ) → Type 0
IsReadAgain run = table_read (table_shown (table_of_run run)) ≡ Ok (table_of_run run)

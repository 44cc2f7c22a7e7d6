-- A table that is written is read again.
-- This project's own rule: the sections of a table form a whole run, and reading this run gives exactly that table.
use Rattle.std.specs.Prelude.{◌≡◌, ℕ, ◌&&◌, ◌||◌, List, Bool, nat_lt, nat_le, if◌then◌else◌, Ok}
use Rattle.std.specs.List.{list_all}
use Rattle.ts_section.specs.SectionRun.{IsTableRun}
use Rattle.ts_table_rows.specs.TablePages.{TablePage}
use Rattle.ts_table_rows.specs.TableValues.{TableHolding}
use Rattle.ts_table_rows.specs.TableSections.{sections_of}
use Rattle.ts_table_rows.specs.RunReading.{read_run}

-- where a table has sections, reading them gives the table
abbrev pub IsReadAgain : TablePage → TableHolding → Type 0
IsReadAgain p h = (sections : List (List ℕ)) → sections_of p h ≡ Ok sections → read_run p sections ≡ Ok h

-- where a table has sections, they are a whole run
abbrev pub IsWrittenWhole : TablePage → TableHolding → Type 0
IsWrittenWhole p h = (sections : List (List ℕ)) → sections_of p h ≡ Ok sections → IsTableRun sections

-- section numbers are kept exactly for the table_ids of an EIT (0x4E to 0x6F), each section of which is alone
abbrev pub id_forms_runs : Bool → ℕ × ℕ → Bool
id_forms_runs keeps range =
    if keeps then nat_le 0x4E range.0 && nat_le range.1 0x6F else nat_lt range.1 0x4E || nat_lt 0x6F range.0

-- a table whose sections can be a whole run
abbrev pub forms_runs : TablePage → Bool
forms_runs p = list_all (id_forms_runs p.keeps_numbers) p.ids

-- What an edit of tables makes of a run of sections.
-- ISO/IEC 13818-1, 2.4.4, and ETSI EN 300 468, 5.2: a table that is current applies now. Which tables are edited is this
-- project's own rule: the current ones of the edited kind that read. A table whose edit has no sections stays as it is. A
-- table that the edit does not change is written anew all the same.
use Rattle.std.specs.Prelude.{ℕ, List, nat_eq, Option, Some, None, Result, Ok, Err, if◌then◌else◌}
use Rattle.ts_table_rows.specs.declared.fault.TableRefusal.{TableRefusal}
use Rattle.ts_table_rows.specs.TablePages.{TablePage}
use Rattle.ts_table_rows.specs.TableSections.{sections_of}
use Rattle.ts_table_rows.specs.TableValues.{TableHolding}
use Rattle.plug_psi.specs.Edits.{Change, same, instead}

-- the sections in place of the run; if there are none, the run stays as it is
abbrev pub in_place : Result (List (List ℕ)) TableRefusal → Change
in_place (Ok sections) = instead sections
in_place (Err refusal) = same

-- a table written anew; if there is none, the run stays as it is
abbrev pub written_anew : TablePage → Option TableHolding → Change
written_anew page None = same
written_anew page (Some table) = in_place (sections_of page table)

-- what an edit of current tables makes of a run that holds one, or none
abbrev pub changed_current : TablePage → (TableHolding → Option TableHolding) → Option TableHolding → Change
changed_current page edit None = same
changed_current page edit (Some table) = written_anew page (edit table)

-- an edit of only those tables that have a given table_id
abbrev pub of_id : ℕ → (TableHolding → Option TableHolding) → TableHolding → Option TableHolding
of_id table_id edit table = if nat_eq table.head.table_id table_id then edit table else None

-- What `eit` makes of a section.
-- ETSI EN 300 468, 5.2.4. The edit is this project's own rule: a section that does not read, one without such an event, and one
-- that would become longer is given as it came.
use Rattle.std.specs.Prelude.{ℕ, ◌&&◌, List, [], ◌∷◌, length, nat_le, Bool, false, is_some, not, Option, Some, None, Result, Ok, Err, if◌then◌else◌}
use Rattle.std.specs.List.{list_any}
use Rattle.ts_table_rows.specs.RunReading.{FirstBroken, read_run}
use Rattle.ts_table_rows.specs.TableSections.{sections_of}
use Rattle.ts_table_rows.specs.TableValues.{TableHolding}
use Rattle.ts_table_rows.specs.declared.fault.TableRefusal.{TableRefusal}
use Rattle.ts_table_pages.specs.EitPages.{eit_page}
use Rattle.ts_eit.specs.EitSections.{is_of_service}
use Rattle.plug_eit.specs.EventChange.{changed_events, is_event}
use Rattle.plug_eit.specs.declared.eit_conf.EitConf.{EitConf}

-- a table with its events after the edit
abbrev pub changed_table : EitConf → TableHolding → TableHolding
changed_table conf table = record table {
  body = record table.body { items = changed_events conf table.body.items };
}

-- a table that was read; none where the section does not read
abbrev pub table_read : Result TableHolding FirstBroken → Option TableHolding
table_read (Ok table) = Some table
table_read (Err fault) = None

-- the one section of a list of one
abbrev pub alone : List (List ℕ) → Option (List ℕ)
alone [] = None
alone (new ∷ []) = Some new
alone (new ∷ (next ∷ others)) = None

-- the one section that was made of a table; none where it would be too long
abbrev pub only_section : Result (List (List ℕ)) TableRefusal → Option (List ℕ)
only_section (Ok sections) = alone sections
only_section (Err refusal) = None

-- a new section in the place of another one, where it is not longer
abbrev pub unless_longer : List ℕ → Option (List ℕ) → List ℕ
unless_longer s None = s
unless_longer s (Some new) = if nat_le (length new) (length s) then new else s

-- a section by its table, after the edit
abbrev pub changed_by : EitConf → List ℕ → Option TableHolding → List ℕ
changed_by conf s None = s
changed_by conf s (Some table) =
    if list_any (is_event conf) table.body.items
    then unless_longer s (only_section (sections_of eit_page (changed_table conf table)))
    else s

-- an EIT section of the service after the edit
unfoldable pub changed_section : EitConf → List ℕ → List ℕ
changed_section conf s = changed_by conf s (table_read (read_run eit_page (s ∷ [])))

-- whole sections are removed
abbrev pub removes_sections : EitConf → Bool
removes_sections conf = conf.remove && not (is_some conf.event)

-- an EIT section of the service with this number, if there is one
abbrev pub is_of_one : Option ℕ → List ℕ → Bool
is_of_one None s = false
is_of_one (Some service) s = is_of_service service s

-- what becomes of a section of any table, where the service has this number, or where there is none
unfoldable pub edited_section : EitConf → Option ℕ → List ℕ → Option (List ℕ)
edited_section conf service s =
    if is_of_one service s then (if removes_sections conf then None else Some (changed_section conf s)) else Some s

-- A call that is over before the files of all plugins were read. This project's own rule.
use Rattle.std.specs.Prelude.{◌≡◌, ◌⊎◌, ℕ, ◌+◌, List, [], ◌∷◌, ◌++◌, length, take, codes, Bool, Some, Err}
use Rattle.std.specs.Fmt.{decimal}
use Rattle.plugin_settings.specs.declared.plugin_item.PluginItem.{PluginItem}
use Rattle.plugin_settings.specs.Plugins.{table_file_of}
use Rattle.tabcomp_core.specs.declared.table_file_fault.TableFileFault.{TableFileFault}
use Rattle.ts_outside.specs.declared.requests.Purpose.TheVariants.{File}
use Rattle.ts_outside.specs.Desk.{DeskView, asked_well, asked_in_vain}
use Rattle.ts_outside.specs.Saying.{Says}
use Rattle.tsp_top.specs.PlannedTables.{HasSections, AreTables, name_if_any, table_files, files_asked}
use Rattle.tsp_top.specs.declared.status.Status.{Status}
use Rattle.tsp_top.specs.declared.status.Status.TheVariants.{NoMemory, ReadFault, TableFile}

-- how the file of a plugin ended the call
pub data TableEnd : Type 0 where
  -- it was not read
  unread : TableEnd
  -- it was read, or begun to be, and has no sections, for this reason
  refused : (fault : TableFileFault) → TableEnd

-- its status, where it is the file of the plugin of this number
abbrev pub status_of_table : ℕ → TableEnd → Status
status_of_table plugin unread = ReadFault
status_of_table plugin (refused fault) = TableFile plugin fault

-- the line that is reported
abbrev pub table_line : ℕ → TableEnd → List ℕ
table_line plugin unread = codes "tsp: cannot read table file of plugin " ++ (decimal plugin ++ 10 ∷ [])
table_line plugin (refused fault) = codes "tsp: no tables in file of plugin " ++ (decimal plugin ++ 10 ∷ [])

-- the desk after the file was asked for
abbrev pub desk_after_table : DeskView → List ℕ → TableEnd → DeskView
desk_after_table desk name unread = asked_in_vain desk File name
desk_after_table desk name (refused fault) = asked_well desk File name

-- a file is refused only for its bytes
abbrev pub CanEndByTable : DeskView → List ℕ → TableEnd → Type 0
CanEndByTable desk name unread = Unit {0}
CanEndByTable desk name (refused fault) = HasSections desk name (Err fault)

-- the file of the plugin of this number ended the call: it was asked for, its line was reported, whole or a first part
-- of it where a report failed, and nothing else was done
pub record EndsAtTable (plugin : ℕ) (name : List ℕ) (old new : DeskView) (status : Status) : Type 0 where
  pub end : TableEnd
  pub can_end : CanEndByTable old name end
  pub status_is : status ≡ status_of_table plugin end
  pub failed : Bool
  pub desk_is : Says (desk_after_table old name end) new (table_line plugin end) failed

-- memory ran out while files of these names were read, or after that: the first of them were asked for, and nothing
-- else was done
pub record WantsAtTables (names : List (List ℕ)) (old new : DeskView) (status : Status) : Type 0 where
  pub status_is : status ≡ NoMemory
  pub count : ℕ
  pub desk_is : new ≡ files_asked old (take count names)

-- the file ended the call, or memory ran out
abbrev pub IsOverAtTable : ℕ → List ℕ → DeskView → DeskView → Status → Type 0
IsOverAtTable plugin name old new status =
    EndsAtTable plugin name old new status ⊎ WantsAtTables (name ∷ []) old new status

-- the file that the settings of the plugin of this number name did so
abbrev pub EndsAtPlugin : ℕ → PluginItem → DeskView → DeskView → Status → Type 0
EndsAtPlugin plugin item old new status =
    (name : List ℕ) × (table_file_of item.conf ≡ Some name) × EndsAtTable plugin name old new status

-- the same where the settings name a file or none
abbrev pub IsOverAtPlugin : ℕ → PluginItem → DeskView → DeskView → Status → Type 0
IsOverAtPlugin plugin item old new status =
    EndsAtPlugin plugin item old new status
    ⊎ WantsAtTables (name_if_any (table_file_of item.conf)) old new status

-- a file that was asked for is refused: its line was reported; or memory ran out for the line, and nothing happened
abbrev pub RefusesTable : ℕ → TableFileFault → DeskView → DeskView → Status → Type 0
RefusesTable plugin fault old new status =
    ((failed : Bool) × (status ≡ TableFile plugin fault) × Says old new (table_line plugin (refused fault)) failed)
    ⊎ ((status ≡ NoMemory) × (new ≡ old))

-- the file of one of these plugins ended the call: those of the plugins before it were asked for, and have sections
pub record EndsAtTables (items : List PluginItem) (old new : DeskView) (status : Status) : Type 0 where
  pub before : List PluginItem
  pub item : PluginItem
  pub behind : List PluginItem
  pub items_are : items ≡ before ++ item ∷ behind
  pub tables : List (List (List ℕ))
  pub tables_are : AreTables old before tables
  pub ends : EndsAtPlugin (length before + 1) item (files_asked old (table_files before)) new status

-- or memory ran out
abbrev pub IsOverAtTables : List PluginItem → DeskView → DeskView → Status → Type 0
IsOverAtTables items old new status =
    EndsAtTables items old new status ⊎ WantsAtTables (table_files items) old new status

-- The tables of a plan: the sections of the files that the settings of its plugins name. This project's own rule.
use Rattle.std.specs.Prelude.{◌≡◌, ℕ, List, [], ◌∷◌, ◌++◌, map, true, Option, None, Some, IfSome, Result, Ok}
use Rattle.plugin_settings.specs.declared.plugin_item.PluginItem.{PluginItem}
use Rattle.plugin_settings.specs.Plugins.{table_file_of}
use Rattle.tabcomp_core.specs.declared.table_file_fault.TableFileFault.{TableFileFault}
use Rattle.tabcomp_core.specs.TableFiles.{sections_of_file}
use Rattle.ts_outside.specs.declared.requests.Asked.{Asked}
use Rattle.ts_outside.specs.declared.requests.Purpose.TheVariants.{File}
use Rattle.ts_outside.specs.Told.{grown}
use Rattle.ts_outside.specs.Desk.{DeskView, content}
use Rattle.chain_args.specs.declared.plan_type.Plan.{Plan}

-- a file was read, and these are its sections, or why it has none: those of its bytes where they are known, and
-- where it does not, of some
pub record HasSections (desk : DeskView) (name : List ℕ)
    (sections : Result (List (List ℕ)) TableFileFault) : Type 0 where
  pub bytes : List ℕ
  pub told : IfSome (content desk name) (λ file. bytes ≡ file)
  pub are : sections_of_file name bytes ≡ sections

-- the sections that a plugin is given whose settings name this file, and none where they name none
abbrev pub IsTable : DeskView → Option (List ℕ) → List (List ℕ) → Type 0
IsTable desk None table = table ≡ []
IsTable desk (Some name) table = HasSections desk name (Ok table)

-- each plugin's sections
abbrev pub AreTables : DeskView → List PluginItem → List (List (List ℕ)) → Type 0
AreTables desk [] [] = Unit {0}
AreTables desk (item ∷ items) (table ∷ tables) = IsTable desk (table_file_of item.conf) table × AreTables desk items tables
AreTables desk _ _ = ⊥

-- the names of the files, in the order of the plugins
abbrev pub name_if_any : Option (List ℕ) → List (List ℕ)
name_if_any None = []
name_if_any (Some name) = name ∷ []

abbrev pub table_files : List PluginItem → List (List ℕ)
table_files [] = []
table_files (item ∷ items) = name_if_any (table_file_of item.conf) ++ table_files items

-- the desk after files of these names were asked for, one after another, without a fault
abbrev pub file_asked : List ℕ → Asked
file_asked name = record { purpose = File; name = name; ok = true }

abbrev pub files_asked : DeskView → List (List ℕ) → DeskView
files_asked desk names = record desk { asked = grown desk.asked (map file_asked names) }

-- the files of these plugins were read: they have these tables, and nothing else was done
pub record ReadsTables (items : List PluginItem) (tables : List (List (List ℕ))) (old new : DeskView) : Type 0 where
  pub are : AreTables old items tables
  pub asked : new ≡ files_asked old (table_files items)

-- the desk after the files of a plan were asked for
abbrev pub tables_asked : DeskView → Plan → DeskView
tables_asked desk plan = files_asked desk (table_files plan.plugins)

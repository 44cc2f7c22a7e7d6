-- What follows of tables over a desk whose files are known: they are one, and no file ends the call.
use Rattle.std.proofs.Common.{◌≡◌, ℕ, List, [], ◌∷◌, ◌++◌, ◌+◌, length, Bool, Option, None, Some, IfSome, Result, Ok, Err, refl, ap, sym, ◌∙◌, subst}
use Rattle.plugin_settings.specs.declared.plugin_item.PluginItem.{PluginItem}
use Rattle.plugin_settings.specs.Plugins.{table_file_of}
use Rattle.tabcomp_core.specs.declared.table_file_fault.TableFileFault.{TableFileFault}
use Rattle.tabcomp_core.specs.TableFiles.{sections_of_file}
use Rattle.std.specs.Option.{option_map}
use Rattle.ts_outside.specs.Count.{HasCause}
use Rattle.ts_outside.specs.declared.requests.Purpose.TheVariants.{File}
use Rattle.ts_outside.specs.Desk.{DeskView, asked_in_vain, content, file_of}
use Rattle.ts_outside.proofs.Views.{HasCause-raised}
use Rattle.ts_outside.specs.Saying.{Says}
use Rattle.tsp_top.specs.PlannedTables.{HasSections, IsTable, AreTables, table_files, files_asked}
use Rattle.tsp_top.specs.Headline.{TellsTable, TellsTables}
use Rattle.tsp_top.specs.TableEnds.{TableEnd, unread, refused, status_of_table, table_line, desk_after_table, CanEndByTable, EndsAtTables}
use Rattle.tsp_top.specs.declared.status.Status.{Status}
use Rattle.tsp_top.specs.declared.status.Status.TheVariants.{NoMemory}
use Rattle.tsp_top.proofs.DeskLemmas.{leaves-says}

-- a file or a plugin that ended the call did not run out of memory
pub ends-not-wanting : (plugin : ℕ) (end : TableEnd) → NoMemory ≡ status_of_table plugin end → ⊥
ends-not-wanting plugin unread is = cc
ends-not-wanting plugin (refused fault) is = cc

module _ (desk : DeskView) (files : List (List ℕ × List ℕ)) where
  -- bytes that are known of a desk are those of its files
  told-bytes : (name bytes : List ℕ) → desk.files ≡ Some files → IfSome (content desk name) (λ file. bytes ≡ file) → bytes ≡ file_of files name
  told-bytes name bytes tells told =
      subst (λ (o : Option (List (List ℕ × List ℕ))). IfSome (option_map (λ fs. file_of fs name) o) (λ file. bytes ≡ file)) tells told

  sections-same : (name : List ℕ) (one other : Result (List (List ℕ)) TableFileFault) → desk.files ≡ Some files → HasSections desk name one → HasSections desk name other → one ≡ other
  sections-same name one other tells has also =
      sym has.are
      ∙ ap (λ (bytes : List ℕ). sections_of_file name bytes) (told-bytes name has.bytes tells has.told ∙ sym (told-bytes name also.bytes tells also.told))
      ∙ also.are

  table-same : (file : Option (List ℕ)) (one other : List (List ℕ)) → TellsTable file desk files → IsTable desk file one → IsTable desk file other → one ≡ other
  table-same None one other tells is also = is ∙ sym also
  table-same (Some name) one other tells is also = let e : Ok one ≡ Ok other = sections-same name (Ok one) (Ok other) tells is also in cc

  pub tables-same : (items : List PluginItem) (one other : List (List (List ℕ))) → TellsTables items desk files → AreTables desk items one → AreTables desk items other → one ≡ other
  tables-same [] [] [] tells are also = refl
  tables-same [] [] (t ∷ other) tells are also = absurd also
  tables-same [] (t ∷ one) other tells are also = absurd are
  tables-same (item ∷ items) [] other tells are also = absurd are
  tables-same (item ∷ items) (t ∷ one) [] tells are also = absurd also
  tables-same (item ∷ items) (t ∷ one) (u ∷ other) tells are also =
      ap (λ (x : List (List ℕ)). x ∷ one) (table-same (table_file_of item.conf) t u tells.0 are.0 also.0)
      ∙ ap (λ (l : List (List (List ℕ))). u ∷ l) (tables-same items one other tells.1 are.1 also.1)

  -- the table of one of plugins, and that its file is known
  table-at : (before : List PluginItem) (item : PluginItem) (behind : List PluginItem) (tables : List (List (List ℕ)))
      → AreTables desk (before ++ item ∷ behind) tables → (table : List (List ℕ)) × IsTable desk (table_file_of item.conf) table
  table-at [] item behind [] are = absurd are
  table-at [] item behind (t ∷ tables) are = (t, are.0)
  table-at (b ∷ before) item behind [] are = absurd are
  table-at (b ∷ before) item behind (t ∷ tables) are = table-at before item behind tables are.1

  told-at : (before : List PluginItem) (item : PluginItem) (behind : List PluginItem) → TellsTables (before ++ item ∷ behind) desk files → TellsTable (table_file_of item.conf) desk files
  told-at [] item behind tells = tells.0
  told-at (b ∷ before) item behind tells = told-at before item behind tells.1

  -- a file that is known and has sections does not end the call, unless a read failed
  no-end-at : (plugin : ℕ) (name : List ℕ) (names : List (List ℕ)) (table : List (List ℕ)) (new : DeskView) (end : TableEnd) (failed : Bool)
      → desk.files ≡ Some files → HasSections desk name (Ok table) → (HasCause desk.read_faults new.read_faults → ⊥)
      → CanEndByTable (files_asked desk names) name end → Says (desk_after_table (files_asked desk names) name end) new (table_line plugin end) failed → ⊥
  no-end-at plugin name names table new unread failed tells has quiet can says =
      let left = leaves-says (asked_in_vain (files_asked desk names) File name) new (table_line plugin unread) failed says in
      quiet (subst (λ (n : ℕ). HasCause desk.read_faults n) (sym left.read_faults) (HasCause-raised desk.read_faults))
  no-end-at plugin name names table new (refused fault) failed tells has quiet can says =
      let refusal : HasSections desk name (Err fault) = record { bytes = can.bytes; told = can.told; are = can.are } in
      let e : Ok table ≡ Err fault = sections-same name (Ok table) (Err fault) tells has refusal in absurd cc

  pub no-end : (items : List PluginItem) (tables : List (List (List ℕ))) (new : DeskView) (status : Status)
      → TellsTables items desk files → AreTables desk items tables → (HasCause desk.read_faults new.read_faults → ⊥) → EndsAtTables items desk new status → ⊥
  no-end items tables new status tells are quiet ends =
      let here : List PluginItem = ends.before ++ ends.item ∷ ends.behind in
      let named = ends.ends.1 in
      let at = table-at ends.before ends.item ends.behind tables (subst (λ (l : List PluginItem). AreTables desk l tables) ends.items_are are) in
      let told = told-at ends.before ends.item ends.behind (subst (λ (l : List PluginItem). TellsTables l desk files) ends.items_are tells) in
      no-end-at (length ends.before + 1) ends.ends.0 (table_files ends.before) at.0 new ends.ends.2.end ends.ends.2.failed
      (subst (λ (o : Option (List ℕ)). TellsTable o desk files) named told)
      (subst (λ (o : Option (List ℕ)). IsTable desk o at.0) named at.1)
      quiet ends.ends.2.can_end ends.ends.2.desk_is

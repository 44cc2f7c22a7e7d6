-- When an editor stands for the packets that it processed.
-- This project's own rule.
use Rattle.std.specs.Prelude.{◌≡◌, ℕ, Bool, false, List}
use Rattle.ts_demux.specs.PidTables as reading
use Rattle.ts_demux.specs.TablesOn.{tables_on}
use Rattle.ts_demux.specs.declared.pid_tables.PidTables.{PidTables}
use Rattle.plug_psi.specs.AlteredTables.{alters_one}
use Rattle.plug_psi.specs.CycleStands as cycling
use Rattle.plug_psi.specs.CycleStands.{InCycles}
use Rattle.plug_psi.specs.Edits.{Change}
use Rattle.plug_psi.specs.declared.cycle_editor.CycleEditor.{CycleEditor}
use Rattle.plug_psi.specs.declared.editor.Editor.{Editor}

-- Memory did not run out, and what reads the tables and what edits them stand for the same packets. It is known whether
-- these completed a table that the edit alters.
pub record ReadsAndEdits {E : Type 0} (edit : List (List ℕ) → Change) (tables : PidTables) (inner : CycleEditor E) (altered failed : Bool) (pid : ℕ) (taken : List (List ℕ)) : Type 0 where
  pub working : failed ≡ false
  pub tables_read : reading.StandsFor tables pid taken
  pub edited : InCycles edit inner pid taken
  pub told : altered ≡ alters_one edit (tables_on pid taken)

-- an editor of this PID, under what its edit makes of tables, stands for the packets that it processed
abbrev pub StandsFor : {E : Type 0} → (List (List ℕ) → Change) → Editor E → ℕ → List (List ℕ) → Type 0
StandsFor edit editor pid taken = ReadsAndEdits edit editor.tables editor.inner editor.has_altered editor.failed pid taken

-- the edit of an editor
abbrev pub edit_of : {E : Type 0} → Editor E → E
edit_of editor = cycling.edit_of editor.inner

-- whether memory ran out
abbrev pub has_failed : {E : Type 0} → Editor E → Bool
has_failed editor = editor.failed

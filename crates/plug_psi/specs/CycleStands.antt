-- When a cycle editor stands for the packets that it processed.
-- This project's own rule.
use Rattle.std.specs.Prelude.{◌≡◌, ℕ, List}
use Rattle.plug_psi.specs.EditedCycles.{EditsInUse}
use Rattle.plug_psi.specs.Edits.{Change}
use Rattle.plug_psi.specs.EditorState.{Edits}
use Rattle.plug_psi.specs.declared.cycle_editor.CycleEditor.{CycleEditor}

-- A cycle editor of this PID stands for the packets that it processed, under what the edits that were in use at them make of
-- tables. The edit that is in use from now on makes this of them.
abbrev pub InCyclesBy : {E : Type 0} → EditsInUse → (List (List ℕ) → Change) → CycleEditor E → ℕ → List (List ℕ) → Type 0
InCyclesBy edits edit editor pid taken = Edits pid edits edit editor.contents editor.cycle editor.counter editor.changed taken

-- the same where one edit was in use at all of them, and is
abbrev pub InCycles : {E : Type 0} → (List (List ℕ) → Change) → CycleEditor E → ℕ → List (List ℕ) → Type 0
InCycles edit editor pid taken = InCyclesBy (λ s. edit) edit editor pid taken

-- the edit of a cycle editor
abbrev pub edit_of : {E : Type 0} → CycleEditor E → E
edit_of editor = editor.edit

-- its own edit makes the change asked for to tables, and it stands for the packets that it processed
pub record InSeededCycles {E : Type 0} (own wanted : List (List ℕ) → Change) (editor : CycleEditor E) (pid : ℕ) (taken : List (List ℕ)) : Type 0 where
  pub same_change : own ≡ wanted
  pub stands : InCycles wanted editor pid taken

-- What the steps of an editor stand for.
-- This project's own rule: once memory ran out, the editor itself stands for no packets.
use Rattle.std.specs.Prelude.{◌≡◌, ℕ, ◌<◌, false, List}
use Rattle.ts_packet.specs.declared.cell.Cell.{Cell}
use Rattle.ts_packet.specs.declared.numbers.TheConstants.{NULL_PID}
use Rattle.chain_model.specs.PluginRule.{PluginRule}
use Rattle.plugin_trait.specs.Finding.{IsFirstFind}
use Rattle.plugin_trait.specs.declared.first_find.FirstFind.{FirstFind}
use Rattle.plug_psi.specs.Edits.{Change}
use Rattle.plug_psi.specs.EditorStands.{StandsFor, edit_of, has_failed}
use Rattle.plug_psi.specs.declared.editor.Editor.{Editor}
use Rattle.plug_edit.specs.EditRule.{edit_rule, finds_altered, taken_of}
use Rattle.plug_edit.specs.declared.edit_pid.EditPidSteps.{EditPidSteps}

-- unless memory ran out, or nothing is edited, the editor stands for the packets that were taken; and the position that is
-- kept is the first at which a table was complete that the edit alters
abbrev pub StandsWith : {E : Type 0} → (List (List ℕ) → Change) → Editor E → ℕ → FirstFind → List Cell → Type 0
StandsWith edit editor pid found history =
    (has_failed editor ≡ false → pid < NULL_PID → StandsFor edit editor pid (taken_of pid history))
    × IsFirstFind (finds_altered pid edit) history found

-- the same for a value of the steps, by what its edits make of tables
abbrev pub StepsStand : {E : Type 0} → (E → List (List ℕ) → Change) → EditPidSteps E → List Cell → Type 0
StepsStand change s history = StandsWith (change (edit_of s.editor)) s.editor s.pid s.found history

-- the rule of the steps
abbrev pub rule_of : {E : Type 0} → (E → List (List ℕ) → Change) → EditPidSteps E → PluginRule
rule_of change s = edit_rule s.pid (change (edit_of s.editor))

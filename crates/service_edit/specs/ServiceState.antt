-- What the steps of an edit of a service's PMTs stand for.
-- This project's own rule: once memory ran out they stand for none.
use Rattle.std.specs.Prelude.{◌≡◌, ℕ, false, List}
use Rattle.ts_packet.specs.declared.cell.Cell.{Cell}
use Rattle.ts_packet.specs.Cells.{live_packets}
use Rattle.chain_model.specs.PluginRule.{PluginRule}
use Rattle.plugin_trait.specs.Finding.{IsFirstFind}
use Rattle.plug_psi.specs.ByPid.{AllStand}
use Rattle.plug_psi.specs.CycleStands.{edit_of}
use Rattle.plug_psi.specs.Edits.{Change}
use Rattle.plug_psi.specs.ForceStands as forcing
use Rattle.service_edit.specs.EditorState.{EditsFor}
use Rattle.service_edit.specs.ServiceRule.{finds_altered, is_edited, service_rule}
use Rattle.service_edit.specs.declared.service_steps.ServiceEditSteps.{ServiceEditSteps}
use Rattle.service_edit.specs.declared.table_editor.TableEditor.{TableEditor}

-- the editor of a PID, made from this edit, stands for the packets that were taken there
abbrev pub edits_by : {E : Type 0} → (E → List (List ℕ) → Change) → E → TableEditor E → ℕ → List (List ℕ) → Type 0
edits_by change edit it pid taken = EditsFor (change (edit_of it.cycles)) (change edit) it.tables it.cycles it.altered pid taken

-- tables in force and editors are those of the packets
pub record Serves {E : Type 0} (change : E → List (List ℕ) → Change) (s : ServiceEditSteps E) (met : List (List ℕ)) : Type 0 where
  pub forced : forcing.StandsFor s.force met
  pub edited : AllStand (edits_by change s.edit) s.editors (is_edited s.service) met

-- the same, unless memory ran out
abbrev pub StandsFor : {E : Type 0} → (E → List (List ℕ) → Change) → ServiceEditSteps E → List (List ℕ) → Type 0
StandsFor change s met = s.failed ≡ false → Serves change s met

-- the same for the cells that were met; and the position that is kept is the first at which a table was complete that the
-- edit alters
abbrev pub MeetsHistory : {E : Type 0} → (E → List (List ℕ) → Change) → ServiceEditSteps E → List Cell → Type 0
MeetsHistory change s history =
    StandsFor change s (live_packets history) × IsFirstFind (finds_altered s.service (change s.edit)) history s.found

-- the rule of the steps
abbrev pub rule_of : {E : Type 0} → (E → List (List ℕ) → Change) → ServiceEditSteps E → PluginRule
rule_of change s = service_rule s.service (change s.edit) s.dropped s.stuffing

-- When the plugin stands for the packets that it processed.
-- This project's own rule: once memory ran out, or a packet was refused, it stands for none.
use Rattle.std.specs.Prelude.{◌≡◌, ℕ, true, false, List, Option, is_some}
use Rattle.ts_packet.specs.declared.cell.Cell.{Cell}
use Rattle.ts_packet.specs.Cells.{live_packets}
use Rattle.ts_demux.specs.TablesOn.{packets_on}
use Rattle.ts_table_rows.specs.TableValues.{TableHolding}
use Rattle.chain_model.specs.PluginRule.{PluginRule}
use Rattle.plugin_trait.specs.Finding.{IsFirstFind}
use Rattle.plug_psi.specs.ByPid.{AllStand}
use Rattle.plug_psi.specs.CycleStands.{InSeededCycles, edit_of}
use Rattle.plug_psi.specs.ForceStands as forcing
use Rattle.plug_psi.specs.InForce.{pat_of, pid_for}
use Rattle.plug_psi.specs.ReadingState.{Reads}
use Rattle.plug_psi.specs.VariedStands.{Varies, edit_in}
use Rattle.plug_psi.specs.declared.cycle_editor.CycleEditor.{CycleEditor}
use Rattle.plug_psi.specs.declared.varied_editor.VariedEditor.{VariedEditor}
use Rattle.section_flow.specs.FlowStands as flowing
use Rattle.plug_rename.specs.Renaming.{eit_edit, nit_change, nit_edit, pat_change, pmt_change, sdt_change, sdt_edit}
use Rattle.plug_rename.specs.RenameActions.{collides, is_edited}
use Rattle.plug_rename.specs.RenameSettings.{IsValidRename}
use Rattle.plug_rename.specs.RenameRule.{finds_service, rename_rule}
use Rattle.plug_rename.specs.declared.pat_number.PatNumber.{PatNumber}
use Rattle.plug_rename.specs.declared.pmt_number.PmtNumber.{PmtNumber}
use Rattle.plug_rename.specs.declared.nit_items.NitItems.{NitItems}
use Rattle.plug_rename.specs.declared.place.Place.{Place}
use Rattle.plug_rename.specs.declared.sdt_names.SdtNames.{SdtNames}
use Rattle.plug_rename.specs.declared.rename_conf.RenameConf.{RenameConf}
use Rattle.plug_rename.specs.declared.rename_editors.RenameEditors.{RenameEditors}
use Rattle.plug_rename.specs.declared.rename_steps.RenameSteps.{RenameSteps}

-- what is kept of a service is what a PAT says of it
pub record IsPlace (conf : RenameConf) (place : Place) (pat : Option TableHolding) : Type 0 where
  pub at : place.own ≡ pid_for pat conf.service
  pub taken : place.collides ≡ collides conf.service conf.id pat

-- editors of PATs and of PMTs edit by these settings, and stand for the packets that they took
abbrev pub EditsPats : RenameConf → CycleEditor PatNumber → ℕ → List (List ℕ) → Type 0
EditsPats conf editor pid taken =
    InSeededCycles (pat_change (edit_of editor).service (edit_of editor).id) (pat_change conf.service conf.id) editor pid taken

abbrev pub EditsPmts : ℕ → Option ℕ → CycleEditor PmtNumber → ℕ → List (List ℕ) → Type 0
EditsPmts service id editor pid taken = InSeededCycles (pmt_change (edit_of editor).service (edit_of editor).id) (pmt_change service id) editor pid taken

-- an editor of SDTs and BATs edits by these settings, and stands for the packets that were met
pub record EditsSdts (conf : RenameConf) (editor : VariedEditor SdtNames) (met : List (List ℕ)) : Type 0 where
  pub same_conf : (edit_in editor).conf ≡ conf
  pub varies : Varies (sdt_change (edit_in editor).conf (edit_in editor).stream) editor 17 (sdt_edit conf) met

-- so does one of NITs, if they are edited
pub record EditsNits (conf : RenameConf) (editor : VariedEditor NitItems) (met : List (List ℕ)) : Type 0 where
  pub same_service : (edit_in editor).service ≡ conf.service
  pub same_id : (edit_in editor).id ≡ conf.id
  pub varies : is_some conf.id ≡ true → Varies (nit_change (edit_in editor).service (edit_in editor).id (edit_in editor).stream) editor 16 (nit_edit conf) met

-- The editors stand for the packets that were met. If the service has no other number, SDTs alone are edited.
pub record EditorsStand (conf : RenameConf) (editors : RenameEditors) (met : List (List ℕ)) : Type 0 where
  pub valid : IsValidRename conf
  pub same_service : editors.number.service ≡ conf.service
  pub same_id : editors.number.id ≡ conf.id
  pub sdts : EditsSdts conf editors.sdt met
  pub pats : is_some conf.id ≡ true → EditsPats conf editors.pat 0 (packets_on 0 met)
  pub nits : EditsNits conf editors.nit met
  pub eits : is_some conf.id ≡ true → flowing.StandsFor editors.eit 18 (eit_edit conf) (packets_on 18 met)
  pub pmts : AllStand (Reads (EditsPmts editors.number.service editors.number.id)) editors.pmts (is_edited conf) met

-- tables in force and editors are those of the packets
pub record Renames (conf : RenameConf) (steps : RenameSteps) (met : List (List ℕ)) : Type 0 where
  pub forced : forcing.StandsFor steps.force met
  pub placed : IsPlace conf steps.place (pat_of met)
  pub edited : EditorsStand conf steps.editors met

-- the plugin stands for the packets, unless memory ran out or one was refused
abbrev pub StandsFor : RenameSteps → List (List ℕ) → Type 0
StandsFor steps met = steps.failed ≡ false → steps.refused ≡ false → Renames steps.conf steps met

-- the same for the cells that it met; and the position that is kept is the first at which the service was there
abbrev pub MeetsHistory : RenameSteps → List Cell → Type 0
MeetsHistory steps history = StandsFor steps (live_packets history) × IsFirstFind (finds_service steps.conf) history steps.found

-- the rule of the plugin
abbrev pub rule_of : RenameSteps → PluginRule
rule_of steps = rename_rule steps.conf

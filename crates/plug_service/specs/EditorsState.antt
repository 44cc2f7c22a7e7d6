-- When editors stand for the packets that were processed.
-- This project's own rule.
use Rattle.std.specs.Prelude.{◌≡◌, ℕ, Bool, true, List, Option, Some, None, if◌then◌else◌}
use Rattle.plug_psi.specs.Edits.{Change}
use Rattle.plug_psi.specs.VariedStands.{Varies, edit_in}
use Rattle.plug_psi.specs.declared.varied_editor.VariedEditor.{VariedEditor}
use Rattle.section_flow.specs.FlowStands as flowing
use Rattle.named_services.specs.declared.service_word.ServiceWord.{ServiceWord}
use Rattle.varied_edits.specs.VariedStands.{AllVary}
use Rattle.plug_service.specs.Actions.{edits_eits, edits_nits}
use Rattle.plug_service.specs.ServiceEdits.{eit_edit, nit_by, nit_edit, pat_by, pat_edit, pmt_by, pmt_edit, sdt_by, sdt_edit}
use Rattle.plug_service.specs.ServiceRule.{is_edited}
use Rattle.plug_service.specs.declared.way.Way.{Way}
use Rattle.plug_service.specs.declared.pat_part.PatPart.{PatPart}
use Rattle.plug_service.specs.declared.sdt_part.SdtPart.{SdtPart}
use Rattle.plug_service.specs.declared.nit_part.NitPart.{NitPart}
use Rattle.plug_service.specs.declared.pmt_alone.PmtAlone.{PmtAlone}
use Rattle.plug_service.specs.declared.editors.Editors.{Editors}

-- an editor of PATs, of SDTs and BATs, or of NITs stands for the packets that were met
abbrev pub EditsPats : Way → List ServiceWord → VariedEditor PatPart → List (List ℕ) → Type 0
EditsPats way words editor met = Varies (pat_by (edit_in editor).present) editor 0 (pat_edit way words) met

abbrev pub EditsSdts : Way → List ServiceWord → VariedEditor SdtPart → List (List ℕ) → Type 0
EditsSdts way words editor met = Varies (sdt_by (edit_in editor).present) editor 17 (sdt_edit way words) met

abbrev pub EditsNits : Way → List ServiceWord → VariedEditor NitPart → List (List ℕ) → Type 0
EditsNits way words editor met = Varies (nit_by (edit_in editor).present) editor 16 (nit_edit way words) met

-- what an edit of PMTs makes of tables
abbrev pub alone_change : PmtAlone → List (List ℕ) → Change
alone_change alone = pmt_by alone.present

-- the packet that is left in place of another, if a packet passes
abbrev pub left_by : Bool → List ℕ → Option (List ℕ)
left_by passes packet = if passes then Some packet else None

-- the editors stand for the packets that were met; those of NITs and of EIT sections do so where these are edited
pub record EditorsStand (way : Way) (words : List ServiceWord) (editors : Editors) (met : List (List ℕ)) : Type 0 where
  pub pats : EditsPats way words editors.pat met
  pub sdts : EditsSdts way words editors.sdt met
  pub nits : edits_nits way ≡ true → EditsNits way words editors.nit met
  pub eits : edits_eits way ≡ true → flowing.StandsFor editors.eit 18 (eit_edit way words) met
  pub pmts : AllVary alone_change editors.pmts (is_edited way words) (pmt_edit way words) met

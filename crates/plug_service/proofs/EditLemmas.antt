-- Editors, one packet more.
use Rattle.std.proofs.Common.{◌≡◌, ℕ, ◌==◌, ◌&&◌, Bool, true, false, List, [], ◌∷◌, ◌++◌, refl, sym, ◌∙◌, ap}
use Rattle.std.proofs.lemmas.Bool.{eqb-true}
use Rattle.ts_packet.specs.Header.{pid_of}
use Rattle.ts_demux.specs.CountedPackets.{counts}
use Rattle.ts_demux.specs.DemuxState.{DemuxState, TakesIn}
use Rattle.plug_psi.specs.VariedStands.{edit_in}
use Rattle.plug_psi.specs.declared.varied_editor.VariedEditor.{VariedEditor}
use Rattle.plug_psi.proofs.VariedLemmas.{varies-elsewhere}
use Rattle.section_flow.specs.FlowStands as flowing
use Rattle.section_flow.specs.declared.flow.Flow.{Flow}
use Rattle.section_flow.proofs.OtherPids.{flow-elsewhere}
use Rattle.named_services.specs.declared.service_word.ServiceWord.{ServiceWord}
use Rattle.plug_service.specs.Actions.{action_after, edits_eits, edits_nits}
use Rattle.plug_service.specs.EditorsState.{EditsNits, EditsPats, EditsSdts}
use Rattle.plug_service.specs.ServiceEdits.{eit_edit, nit_by, nit_edit, pat_by, pat_edit, sdt_by, sdt_edit}
use Rattle.plug_service.specs.declared.way.Way.{Way}
use Rattle.plug_service.specs.declared.action.Action.{Action}
use Rattle.plug_service.specs.declared.action.Action.TheVariants.{EditEit, EditNit, EditPat, EditSdt}
use Rattle.plug_service.specs.declared.nit_part.NitPart.{NitPart}
use Rattle.plug_service.specs.declared.pat_part.PatPart.{PatPart}
use Rattle.plug_service.specs.declared.sdt_part.SdtPart.{SdtPart}
use Rattle.plug_service.proofs.ActionLemmas.{edits_eit, edits_nit, edits_pat, edits_sdt, eit_pid, fixed_pids, nit_pid}

both_true : (a b : Bool) → (a && b) ≡ true → (a ≡ true) × (b ≡ true)
both_true true b e = (refl, e)
both_true false b e = cc

-- a packet that is edited as one of PATs is on PID 0, one as of SDTs on PID 17, as of NITs on PID 16, and as of EITs on PID 18
module _ (way : Way) (words : List ServiceWord) (met : List (List ℕ)) (p : List ℕ) where
  pub on_zero : EditPat ≡ action_after way words (met ++ p ∷ []) (pid_of p) → pid_of p ≡ 0
  on_zero e = eqb-true (pid_of p) 0 (fixed_pids way words (met ++ p ∷ []) (pid_of p) EditPat e).0

  pub on_seventeen : EditSdt ≡ action_after way words (met ++ p ∷ []) (pid_of p) → pid_of p ≡ 17
  on_seventeen e = eqb-true (pid_of p) 17 (fixed_pids way words (met ++ p ∷ []) (pid_of p) EditSdt e).1

  pub on_sixteen : EditNit ≡ action_after way words (met ++ p ∷ []) (pid_of p) → (edits_nits way ≡ true) × (pid_of p ≡ 16)
  on_sixteen e =
      let both = both_true (edits_nits way) (pid_of p == 16) (nit_pid way words (met ++ p ∷ []) (pid_of p) EditNit e) in
      (both.0, eqb-true (pid_of p) 16 both.1)

  pub on_eighteen : EditEit ≡ action_after way words (met ++ p ∷ []) (pid_of p) → edits_eits way ≡ true
  on_eighteen e = (both_true (edits_eits way) (pid_of p == 18) (eit_pid way words (met ++ p ∷ []) (pid_of p) EditEit e)).0

  -- a packet that is edited as none of theirs
  module _ (action : Action) (e : action ≡ action_after way words (met ++ p ∷ []) (pid_of p)) where
    pub pats-else : (editor : VariedEditor PatPart) → edits_pat action ≡ false → EditsPats way words editor met → EditsPats way words editor (met ++ p ∷ [])
    pats-else editor none h =
        varies-elsewhere (pat_by (edit_in editor).present) editor 0 (pat_edit way words) met p h
        ((fixed_pids way words (met ++ p ∷ []) (pid_of p) action e).0 ∙ none)

    pub sdts-else : (editor : VariedEditor SdtPart) → edits_sdt action ≡ false → EditsSdts way words editor met → EditsSdts way words editor (met ++ p ∷ [])
    sdts-else editor none h =
        varies-elsewhere (sdt_by (edit_in editor).present) editor 17 (sdt_edit way words) met p h
        ((fixed_pids way words (met ++ p ∷ []) (pid_of p) action e).1 ∙ none)

    pub nits-else : (editor : VariedEditor NitPart) → edits_nit action ≡ false → (edits_nits way ≡ true → EditsNits way words editor met)
        → edits_nits way ≡ true → EditsNits way words editor (met ++ p ∷ [])
    nits-else editor none h edits =
        varies-elsewhere (nit_by (edit_in editor).present) editor 16 (nit_edit way words) met p (h edits)
        (sym (ap (λ b. b && (pid_of p == 16)) edits) ∙ (nit_pid way words (met ++ p ∷ []) (pid_of p) action e ∙ none))

    pub eits-else : (flow : Flow) → ((demux : DemuxState) (packet : List ℕ) → counts demux.pid packet ≡ false → TakesIn demux demux packet 0)
        → edits_eit action ≡ false → (edits_eits way ≡ true → flowing.StandsFor flow 18 (eit_edit way words) met)
        → edits_eits way ≡ true → flowing.StandsFor flow 18 (eit_edit way words) (met ++ p ∷ [])
    eits-else flow law none h edits =
        flow-elsewhere flow 18 (eit_edit way words) met p (h edits)
        (sym (ap (λ b. b && (pid_of p == 18)) edits) ∙ (eit_pid way words (met ++ p ∷ []) (pid_of p) action e ∙ none)) law

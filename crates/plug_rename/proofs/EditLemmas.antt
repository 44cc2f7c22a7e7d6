-- Editors, one packet more.
use Rattle.std.proofs.Common.{◌≡◌, ℕ, ◌==◌, ◌&&◌, Bool, true, false, List, [], ◌∷◌, ◌++◌, sym, ◌∙◌, ap, ap₂, subst}
use Rattle.std.specs.Prelude.{◌<◌, Option, is_some}
use Rattle.std.specs.Option.{ForSome}
use Rattle.ts_packet.specs.Header.{pid_of}
use Rattle.ts_demux.specs.TablesOn.{packets_on}
use Rattle.ts_demux.proofs.TakenLemmas.{on-other}
use Rattle.ts_table_rows.specs.TableValues.{TableHolding}
use Rattle.plug_psi.specs.InUse.{EditAsMet}
use Rattle.plug_psi.specs.VariedStands.{Varies, edit_in}
use Rattle.plug_psi.specs.declared.cycle_editor.CycleEditor.{CycleEditor}
use Rattle.plug_psi.specs.declared.varied_editor.VariedEditor.{VariedEditor}
use Rattle.plug_psi.proofs.VariedLemmas.{varies-elsewhere}
use Rattle.section_flow.specs.FlowStands as flowing
use Rattle.section_flow.specs.declared.flow.Flow.{Flow}
use Rattle.service_items.specs.StreamTables.{stream_of}
use Rattle.plug_rename.specs.RenameActions.{action_after}
use Rattle.plug_rename.specs.RenameSettings.{IsValidRename}
use Rattle.plug_rename.specs.RenameState.{EditsNits, EditsPats, EditsSdts}
use Rattle.plug_rename.specs.Renaming.{eit_edit, nit_change, nit_edit, sdt_change, sdt_edit}
use Rattle.plug_rename.specs.declared.action.Action.{Action}
use Rattle.plug_rename.specs.declared.nit_items.NitItems.{NitItems}
use Rattle.plug_rename.specs.declared.pat_number.PatNumber.{PatNumber}
use Rattle.plug_rename.specs.declared.rename_conf.RenameConf.{RenameConf}
use Rattle.plug_rename.specs.declared.sdt_names.SdtNames.{SdtNames}
use Rattle.plug_rename.proofs.ActionLemmas.{edits_eit, edits_nit, edits_pat, edits_sdt, told-by}

-- a new number is that of a service
pub positive : (id : Option ℕ) → ForSome id (λ id. (0 < id) × (id < 65536)) → ForSome id (λ id. 0 < id)
positive id valid = λ number is. (valid number is).0

-- what edits of PATs are made from
abbrev pub pat-seed : (conf : RenameConf) → IsValidRename conf → PatNumber
pat-seed conf valid = record { service = conf.service; id = conf.id; named = valid.service.0; valid = positive conf.id valid.id }

-- the edit of a transport stream makes what is wanted of tables where that is the one in force
pub sdt-wanted :
    (conf : RenameConf) (old new : SdtNames) (stream : Option ℕ) (pat : Option TableHolding) → old.conf ≡ conf →
    new ≡ record old { stream = stream } → stream ≡ stream_of pat → sdt_change conf (stream_of pat) ≡ sdt_change new.conf new.stream
sdt-wanted conf old new stream pat c e f =
    sym (ap (λ names. sdt_change names.conf names.stream) e ∙ ap (λ own. sdt_change own stream) c ∙ ap (sdt_change conf) f)

pub nit-wanted :
    (conf : RenameConf) (old new : NitItems) (stream : Option ℕ) (pat : Option TableHolding) → old.service ≡ conf.service → old.id ≡ conf.id →
    new ≡ record old { stream = stream } → stream ≡ stream_of pat → nit_change conf.service conf.id (stream_of pat) ≡ nit_change new.service new.id new.stream
nit-wanted conf old new stream pat s i e f =
    sym (ap (λ items. nit_change items.service items.id items.stream) e ∙ ap₂ (λ service id. nit_change service id stream) s i ∙ ap (nit_change conf.service conf.id) f)

-- before the first packet
pub first-sdts :
    (conf : RenameConf) (editor : VariedEditor SdtNames) (names : SdtNames) → edit_in editor ≡ names → names.conf ≡ conf →
    ((wanted : EditAsMet) → Varies (sdt_change names.conf names.stream) editor 17 wanted []) → EditsSdts conf editor []
first-sdts conf editor names e c fresh = record {
  same_conf = ap (λ part. part.conf) e ∙ c;
  varies = subst (λ part. Varies (sdt_change part.conf part.stream) editor 17 (sdt_edit conf) []) (sym e) (fresh (sdt_edit conf));
}

pub first-nits :
    (conf : RenameConf) (editor : VariedEditor NitItems) (items : NitItems) → edit_in editor ≡ items → items.service ≡ conf.service → items.id ≡ conf.id →
    ((wanted : EditAsMet) → Varies (nit_change items.service items.id items.stream) editor 16 wanted []) → EditsNits conf editor []
first-nits conf editor items e s i fresh = record {
  same_service = ap (λ part. part.service) e ∙ s;
  same_id = ap (λ part. part.id) e ∙ i;
  varies = λ edits. subst (λ part. Varies (nit_change part.service part.id part.stream) editor 16 (nit_edit conf) []) (sym e) (fresh (nit_edit conf));
}

-- where there is another number, a PID's test is the action's
only : (a b c : Bool) → (a && b) ≡ c → a ≡ true → b ≡ c
only true b c e f = e
only false b c e f = cc

-- a packet that is edited as none of theirs
module _ (conf : RenameConf) (met : List (List ℕ)) (p : List ℕ) (action : Action) (e : action ≡ action_after conf (met ++ p ∷ []) (pid_of p)) where
  pub pats-else :
      (editor : CycleEditor PatNumber) → edits_pat action ≡ false → (is_some conf.id ≡ true → EditsPats conf editor 0 (packets_on 0 met)) →
      is_some conf.id ≡ true → EditsPats conf editor 0 (packets_on 0 (met ++ p ∷ []))
  pats-else editor none h numbered =
      subst (EditsPats conf editor 0) (sym (on-other 0 met p (only (is_some conf.id) (pid_of p == 0) (edits_pat action) (told-by conf (met ++ p ∷ []) (pid_of p) action e).pats numbered ∙ none)))
      (h numbered)

  pub eits-else :
      (flow : Flow) → edits_eit action ≡ false → (is_some conf.id ≡ true → flowing.StandsFor flow 18 (eit_edit conf) (packets_on 18 met)) →
      is_some conf.id ≡ true → flowing.StandsFor flow 18 (eit_edit conf) (packets_on 18 (met ++ p ∷ []))
  eits-else flow none h numbered =
      subst (flowing.StandsFor flow 18 (eit_edit conf)) (sym (on-other 18 met p (only (is_some conf.id) (pid_of p == 18) (edits_eit action) (told-by conf (met ++ p ∷ []) (pid_of p) action e).eits numbered ∙ none)))
      (h numbered)

  pub sdts-else : (editor : VariedEditor SdtNames) → edits_sdt action ≡ false → EditsSdts conf editor met → EditsSdts conf editor (met ++ p ∷ [])
  sdts-else editor none h = record {
    same_conf = h.same_conf;
    varies = varies-elsewhere (sdt_change (edit_in editor).conf (edit_in editor).stream) editor 17 (sdt_edit conf) met p h.varies
        ((told-by conf (met ++ p ∷ []) (pid_of p) action e).sdts ∙ none);
  }

  pub nits-else : (editor : VariedEditor NitItems) → edits_nit action ≡ false → EditsNits conf editor met → EditsNits conf editor (met ++ p ∷ [])
  nits-else editor none h = record {
    same_service = h.same_service;
    same_id = h.same_id;
    varies = λ numbered. varies-elsewhere (nit_change (edit_in editor).service (edit_in editor).id (edit_in editor).stream) editor 16 (nit_edit conf) met p (h.varies numbered)
        (only (is_some conf.id) (pid_of p == 16) (edits_nit action) (told-by conf (met ++ p ∷ []) (pid_of p) action e).nits numbered ∙ none);
  }

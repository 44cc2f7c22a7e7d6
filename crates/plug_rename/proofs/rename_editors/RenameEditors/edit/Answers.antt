use Rattle.std.proofs.Common.{[], ◌∷◌, ◌++◌, refl, sym, ◌∙◌, ap, ap₂, subst}
use Rattle.ts_packet.specs.Header.{pid_of}
use Rattle.ts_demux.specs.TablesOn.{Completes, packets_on}
use Rattle.ts_demux.proofs.TakenLemmas.{on-own}
use Rattle.section_flow.specs.FlowStands as flowing
use Rattle.plug_rename.specs.RenameActions.{edits_pmt, is_edited}
use Rattle.plug_rename.specs.RenameRule.{made_by}
use Rattle.plug_rename.specs.RenameState.{EditsPats}
use Rattle.plug_rename.specs.Renaming.{eit_change, eit_edit}
use Rattle.plug_rename.specs.declared.action.Action.TheVariants.{EditPat, EditSdt, EditNit, EditEit, EditPmt, Pass}
use Rattle.plug_rename.proofs.ActionLemmas.{on_eighteen, on_seventeen, on_sixteen, on_zero}
use Rattle.plug_rename.proofs.EditLemmas.{eits-else, nits-else, pat-seed, pats-else, sdts-else}
use Rattle.plug_rename.proofs.rename_editors.RenameEditors.edit.Goals as goal

pub returns-in_ok-pat-in-EditPat-clause-made : goal.returns-in_ok-pat-in-EditPat-clause-made
returns-in_ok-pat-in-EditPat-clause-made c = λ conf met h e forced completes.
    let at = on_zero conf (met ++ c.args.packet.now ∷ []) (pid_of c.args.packet.now) (sym c.in-EditPat.is ∙ e) in
    let given = subst (Completes 0 (packets_on 0 met) c.args.packet.now) (sym c.take_pats-tables.ensures.pats) (completes at.1) in
    c.in_ok-pat-in-EditPat.ensures.tells (pat-seed conf h.valid) 0 (packets_on 0 met) (h.pats at.0) given
    ∙ ap (λ f. made_by conf f met c.args.packet.now) (sym c.in-EditPat.is)

pub returns-in_ok-pat-in-EditPat-clause-stands : goal.returns-in_ok-pat-in-EditPat-clause-stands
returns-in_ok-pat-in-EditPat-clause-stands c = λ conf met h e forced completes.
    let at = on_zero conf (met ++ c.args.packet.now ∷ []) (pid_of c.args.packet.now) (sym c.in-EditPat.is ∙ e) in
    let given = subst (Completes 0 (packets_on 0 met) c.args.packet.now) (sym c.take_pats-tables.ensures.pats) (completes at.1) in
    record {
      valid = h.valid;
      same_service = h.same_service;
      same_id = h.same_id;
      sdts = sdts-else conf met c.args.packet.now EditPat (sym c.in-EditPat.is ∙ e) c.args.self.now.sdt refl h.sdts;
      pats = λ numbered. subst (EditsPats conf c.take.new.self 0) (sym (on-own 0 met c.args.packet.now at.1)) (c.in_ok-pat-in-EditPat.ensures.stands (pat-seed conf h.valid) 0 (packets_on 0 met) (h.pats numbered) given);
      nits = nits-else conf met c.args.packet.now EditPat (sym c.in-EditPat.is ∙ e) c.args.self.now.nit refl h.nits;
      eits = eits-else conf met c.args.packet.now EditPat (sym c.in-EditPat.is ∙ e) c.args.self.now.eit refl h.eits;
      pmts = c.unfollowed_packets_change_nothing.ensures (record { service = c.args.self.now.number.service; id = c.args.self.now.number.id }) c.args.self.now.pmts (is_edited conf) met c.args.packet.now h.pmts (sym (ap edits_pmt (sym c.in-EditPat.is ∙ e)));
    }

pub returns-in_ok-sdt-in-EditSdt-clause-made : goal.returns-in_ok-sdt-in-EditSdt-clause-made
returns-in_ok-sdt-in-EditSdt-clause-made c = λ conf met h e forced completes.
    c.in_ok-sdt-in-EditSdt.ensures.made conf met h.sdts (on_seventeen conf (met ++ c.args.packet.now ∷ []) (pid_of c.args.packet.now) (sym c.in-EditSdt.is ∙ e)) (c.stream_in_force-sdt_stream.ensures _ forced)
    ∙ ap (λ f. made_by conf f met c.args.packet.now) (sym c.in-EditSdt.is)

pub returns-in_ok-sdt-in-EditSdt-clause-stands : goal.returns-in_ok-sdt-in-EditSdt-clause-stands
returns-in_ok-sdt-in-EditSdt-clause-stands c = λ conf met h e forced completes.
    record {
      valid = h.valid;
      same_service = h.same_service;
      same_id = h.same_id;
      sdts = c.in_ok-sdt-in-EditSdt.ensures.stands conf met h.sdts (on_seventeen conf (met ++ c.args.packet.now ∷ []) (pid_of c.args.packet.now) (sym c.in-EditSdt.is ∙ e)) (c.stream_in_force-sdt_stream.ensures _ forced);
      pats = pats-else conf met c.args.packet.now EditSdt (sym c.in-EditSdt.is ∙ e) c.args.self.now.pat refl h.pats;
      nits = nits-else conf met c.args.packet.now EditSdt (sym c.in-EditSdt.is ∙ e) c.args.self.now.nit refl h.nits;
      eits = eits-else conf met c.args.packet.now EditSdt (sym c.in-EditSdt.is ∙ e) c.args.self.now.eit refl h.eits;
      pmts = c.unfollowed_packets_change_nothing.ensures (record { service = c.args.self.now.number.service; id = c.args.self.now.number.id }) c.args.self.now.pmts (is_edited conf) met c.args.packet.now h.pmts (sym (ap edits_pmt (sym c.in-EditSdt.is ∙ e)));
    }

pub returns-in_ok-nit-in-EditNit-clause-made : goal.returns-in_ok-nit-in-EditNit-clause-made
returns-in_ok-nit-in-EditNit-clause-made c = λ conf met h e forced completes.
    let at = on_sixteen conf (met ++ c.args.packet.now ∷ []) (pid_of c.args.packet.now) (sym c.in-EditNit.is ∙ e) in
    c.in_ok-nit-in-EditNit.ensures.made conf met h.nits at.0 at.1 (c.stream_in_force-nit_stream.ensures _ forced)
    ∙ ap (λ f. made_by conf f met c.args.packet.now) (sym c.in-EditNit.is)

pub returns-in_ok-nit-in-EditNit-clause-stands : goal.returns-in_ok-nit-in-EditNit-clause-stands
returns-in_ok-nit-in-EditNit-clause-stands c = λ conf met h e forced completes.
    let at = on_sixteen conf (met ++ c.args.packet.now ∷ []) (pid_of c.args.packet.now) (sym c.in-EditNit.is ∙ e) in
    record {
      valid = h.valid;
      same_service = h.same_service;
      same_id = h.same_id;
      sdts = sdts-else conf met c.args.packet.now EditNit (sym c.in-EditNit.is ∙ e) c.args.self.now.sdt refl h.sdts;
      pats = pats-else conf met c.args.packet.now EditNit (sym c.in-EditNit.is ∙ e) c.args.self.now.pat refl h.pats;
      nits = c.in_ok-nit-in-EditNit.ensures.stands conf met h.nits at.0 at.1 (c.stream_in_force-nit_stream.ensures _ forced);
      eits = eits-else conf met c.args.packet.now EditNit (sym c.in-EditNit.is ∙ e) c.args.self.now.eit refl h.eits;
      pmts = c.unfollowed_packets_change_nothing.ensures (record { service = c.args.self.now.number.service; id = c.args.self.now.number.id }) c.args.self.now.pmts (is_edited conf) met c.args.packet.now h.pmts (sym (ap edits_pmt (sym c.in-EditNit.is ∙ e)));
    }

pub returns-in_ok-step-in-EditEit-clause-made : goal.returns-in_ok-step-in-EditEit-clause-made
returns-in_ok-step-in-EditEit-clause-made c = λ conf met h e forced completes.
    let at = on_eighteen conf (met ++ c.args.packet.now ∷ []) (pid_of c.args.packet.now) (sym c.in-EditEit.is ∙ e) in
    c.in_ok-step-in-EditEit.ensures.replaced 18 (eit_edit conf) (packets_on 18 met) (h.eits at.0) (λ section. ap₂ (λ service id. eit_change service id section) h.same_service h.same_id)
    ∙ ap (λ f. made_by conf f met c.args.packet.now) (sym c.in-EditEit.is)

pub returns-in_ok-step-in-EditEit-clause-stands : goal.returns-in_ok-step-in-EditEit-clause-stands
returns-in_ok-step-in-EditEit-clause-stands c = λ conf met h e forced completes.
    let at = on_eighteen conf (met ++ c.args.packet.now ∷ []) (pid_of c.args.packet.now) (sym c.in-EditEit.is ∙ e) in
    record {
      valid = h.valid;
      same_service = h.same_service;
      same_id = h.same_id;
      sdts = sdts-else conf met c.args.packet.now EditEit (sym c.in-EditEit.is ∙ e) c.args.self.now.sdt refl h.sdts;
      pats = pats-else conf met c.args.packet.now EditEit (sym c.in-EditEit.is ∙ e) c.args.self.now.pat refl h.pats;
      nits = nits-else conf met c.args.packet.now EditEit (sym c.in-EditEit.is ∙ e) c.args.self.now.nit refl h.nits;
      eits = λ numbered. subst (flowing.StandsFor c.step.new.self 18 (eit_edit conf)) (sym (on-own 18 met c.args.packet.now at.1)) (c.in_ok-step-in-EditEit.ensures.stands 18 (eit_edit conf) (packets_on 18 met) (h.eits numbered) (λ section. ap₂ (λ service id. eit_change service id section) h.same_service h.same_id));
      pmts = c.unfollowed_packets_change_nothing.ensures (record { service = c.args.self.now.number.service; id = c.args.self.now.number.id }) c.args.self.now.pmts (is_edited conf) met c.args.packet.now h.pmts (sym (ap edits_pmt (sym c.in-EditEit.is ∙ e)));
    }

pub returns-in_ok-pmt-in-EditPmt-clause-stands : goal.returns-in_ok-pmt-in-EditPmt-clause-stands
returns-in_ok-pmt-in-EditPmt-clause-stands c = λ conf met h e forced completes.
    record {
      valid = h.valid;
      same_service = h.same_service;
      same_id = h.same_id;
      sdts = sdts-else conf met c.args.packet.now EditPmt (sym c.in-EditPmt.is ∙ e) c.args.self.now.sdt refl h.sdts;
      pats = pats-else conf met c.args.packet.now EditPmt (sym c.in-EditPmt.is ∙ e) c.args.self.now.pat refl h.pats;
      nits = nits-else conf met c.args.packet.now EditPmt (sym c.in-EditPmt.is ∙ e) c.args.self.now.nit refl h.nits;
      eits = eits-else conf met c.args.packet.now EditPmt (sym c.in-EditPmt.is ∙ e) c.args.self.now.eit refl h.eits;
      pmts = c.in_ok-pmt-in-EditPmt.ensures.stands (is_edited conf) met h.pmts (sym (ap edits_pmt (sym c.in-EditPmt.is ∙ e))) tt;
    }

pub returns-in-Pass-clause-stands : goal.returns-in-Pass-clause-stands
returns-in-Pass-clause-stands c = λ conf met h e forced completes.
    record {
      valid = h.valid;
      same_service = h.same_service;
      same_id = h.same_id;
      sdts = sdts-else conf met c.args.packet.now Pass (sym c.in-Pass.is ∙ e) c.args.self.now.sdt refl h.sdts;
      pats = pats-else conf met c.args.packet.now Pass (sym c.in-Pass.is ∙ e) c.args.self.now.pat refl h.pats;
      nits = nits-else conf met c.args.packet.now Pass (sym c.in-Pass.is ∙ e) c.args.self.now.nit refl h.nits;
      eits = eits-else conf met c.args.packet.now Pass (sym c.in-Pass.is ∙ e) c.args.self.now.eit refl h.eits;
      pmts = c.unfollowed_packets_change_nothing.ensures (record { service = c.args.self.now.number.service; id = c.args.self.now.number.id }) c.args.self.now.pmts (is_edited conf) met c.args.packet.now h.pmts (sym (ap edits_pmt (sym c.in-Pass.is ∙ e)));
    }

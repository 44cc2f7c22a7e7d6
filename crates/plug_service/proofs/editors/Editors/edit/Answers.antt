use Rattle.std.proofs.Common.{refl, sym, ◌∙◌, ap, Some}
use Rattle.plug_service.specs.Actions.{edits_pmt}
use Rattle.plug_service.specs.ServiceEdits.{eit_by, eit_edit, nit_by, nit_edit, pat_by, pat_edit, pmt_by, pmt_edit, sdt_by, sdt_edit}
use Rattle.plug_service.specs.ServiceRule.{is_edited, made_by}
use Rattle.plug_service.specs.declared.action.Action.TheVariants.{EditPat, EditSdt, EditNit, EditEit, EditPmt, Pass, Drop}
use Rattle.plug_service.proofs.EditLemmas.{eits-else, nits-else, on_eighteen, on_seventeen, on_sixteen, on_zero, pats-else, sdts-else}
use Rattle.plug_service.proofs.editors.Editors.edit.Goals as goal

pub returns-in_ok-pat-in-EditPat-clause-made : goal.returns-in_ok-pat-in-EditPat-clause-made
returns-in_ok-pat-in-EditPat-clause-made c = λ way words met h e q.
    let at = sym c.in-EditPat.is ∙ e in
    ap Some (c.in_ok-pat-in-EditPat.ensures.replaced 0 (pat_edit way words) met h.pats (on_zero way words met c.args.packet.now at) (ap pat_by (sym q)))
    ∙ ap (λ f. made_by way words f met c.args.packet.now) (sym c.in-EditPat.is)

pub returns-in_ok-pat-in-EditPat-clause-stands : goal.returns-in_ok-pat-in-EditPat-clause-stands
returns-in_ok-pat-in-EditPat-clause-stands c = λ way words met h e q.
    let at = sym c.in-EditPat.is ∙ e in
    record {
      pats = c.in_ok-pat-in-EditPat.ensures.stands 0 (pat_edit way words) met h.pats (on_zero way words met c.args.packet.now at) (ap pat_by (sym q));
      sdts = sdts-else way words met c.args.packet.now EditPat at c.args.self.now.sdt refl h.sdts;
      nits = nits-else way words met c.args.packet.now EditPat at c.args.self.now.nit refl h.nits;
      eits = eits-else way words met c.args.packet.now EditPat at c.args.self.now.eit c.other_packets_change_nothing.ensures refl h.eits;
      pmts = c.untaken_packets_change_nothing.ensures c.args.self.now.pmts (is_edited way words) (pmt_edit way words) met c.args.packet.now h.pmts (sym (ap edits_pmt at));
    }

pub returns-in_ok-sdt-in-EditSdt-clause-made : goal.returns-in_ok-sdt-in-EditSdt-clause-made
returns-in_ok-sdt-in-EditSdt-clause-made c = λ way words met h e q.
    let at = sym c.in-EditSdt.is ∙ e in
    ap Some (c.in_ok-sdt-in-EditSdt.ensures.replaced 17 (sdt_edit way words) met h.sdts (on_seventeen way words met c.args.packet.now at) (ap sdt_by (sym q)))
    ∙ ap (λ f. made_by way words f met c.args.packet.now) (sym c.in-EditSdt.is)

pub returns-in_ok-sdt-in-EditSdt-clause-stands : goal.returns-in_ok-sdt-in-EditSdt-clause-stands
returns-in_ok-sdt-in-EditSdt-clause-stands c = λ way words met h e q.
    let at = sym c.in-EditSdt.is ∙ e in
    record {
      pats = pats-else way words met c.args.packet.now EditSdt at c.args.self.now.pat refl h.pats;
      sdts = c.in_ok-sdt-in-EditSdt.ensures.stands 17 (sdt_edit way words) met h.sdts (on_seventeen way words met c.args.packet.now at) (ap sdt_by (sym q));
      nits = nits-else way words met c.args.packet.now EditSdt at c.args.self.now.nit refl h.nits;
      eits = eits-else way words met c.args.packet.now EditSdt at c.args.self.now.eit c.other_packets_change_nothing.ensures refl h.eits;
      pmts = c.untaken_packets_change_nothing.ensures c.args.self.now.pmts (is_edited way words) (pmt_edit way words) met c.args.packet.now h.pmts (sym (ap edits_pmt at));
    }

pub returns-in_ok-nit-in-EditNit-clause-made : goal.returns-in_ok-nit-in-EditNit-clause-made
returns-in_ok-nit-in-EditNit-clause-made c = λ way words met h e q.
    let at = sym c.in-EditNit.is ∙ e in
    let on = on_sixteen way words met c.args.packet.now at in
    ap Some (c.in_ok-nit-in-EditNit.ensures.replaced 16 (nit_edit way words) met (h.nits on.0) on.1 (ap nit_by (sym q)))
    ∙ ap (λ f. made_by way words f met c.args.packet.now) (sym c.in-EditNit.is)

pub returns-in_ok-nit-in-EditNit-clause-stands : goal.returns-in_ok-nit-in-EditNit-clause-stands
returns-in_ok-nit-in-EditNit-clause-stands c = λ way words met h e q.
    let at = sym c.in-EditNit.is ∙ e in
    let on = on_sixteen way words met c.args.packet.now at in
    record {
      pats = pats-else way words met c.args.packet.now EditNit at c.args.self.now.pat refl h.pats;
      sdts = sdts-else way words met c.args.packet.now EditNit at c.args.self.now.sdt refl h.sdts;
      nits = λ edits. c.in_ok-nit-in-EditNit.ensures.stands 16 (nit_edit way words) met (h.nits on.0) on.1 (ap nit_by (sym q));
      eits = eits-else way words met c.args.packet.now EditNit at c.args.self.now.eit c.other_packets_change_nothing.ensures refl h.eits;
      pmts = c.untaken_packets_change_nothing.ensures c.args.self.now.pmts (is_edited way words) (pmt_edit way words) met c.args.packet.now h.pmts (sym (ap edits_pmt at));
    }

pub returns-in_ok-step-in-EditEit-clause-made : goal.returns-in_ok-step-in-EditEit-clause-made
returns-in_ok-step-in-EditEit-clause-made c = λ way words met h e q.
    let at = sym c.in-EditEit.is ∙ e in
    ap Some (c.in_ok-step-in-EditEit.ensures.replaced 18 (eit_edit way words) met (h.eits (on_eighteen way words met c.args.packet.now at)) (λ section. ap (λ p. eit_by p section) q))
    ∙ ap (λ f. made_by way words f met c.args.packet.now) (sym c.in-EditEit.is)

pub returns-in_ok-step-in-EditEit-clause-stands : goal.returns-in_ok-step-in-EditEit-clause-stands
returns-in_ok-step-in-EditEit-clause-stands c = λ way words met h e q.
    let at = sym c.in-EditEit.is ∙ e in
    record {
      pats = pats-else way words met c.args.packet.now EditEit at c.args.self.now.pat refl h.pats;
      sdts = sdts-else way words met c.args.packet.now EditEit at c.args.self.now.sdt refl h.sdts;
      nits = nits-else way words met c.args.packet.now EditEit at c.args.self.now.nit refl h.nits;
      eits = λ edits. c.in_ok-step-in-EditEit.ensures.stands 18 (eit_edit way words) met (h.eits (on_eighteen way words met c.args.packet.now at)) (λ section. ap (λ p. eit_by p section) q);
      pmts = c.untaken_packets_change_nothing.ensures c.args.self.now.pmts (is_edited way words) (pmt_edit way words) met c.args.packet.now h.pmts (sym (ap edits_pmt at));
    }

pub returns-in_ok-pmt-in-EditPmt-clause-made : goal.returns-in_ok-pmt-in-EditPmt-clause-made
returns-in_ok-pmt-in-EditPmt-clause-made c = λ way words met h e q.
    let at = sym c.in-EditPmt.is ∙ e in
    ap Some (c.in_ok-pmt-in-EditPmt.ensures.replaced (is_edited way words) (pmt_edit way words) met h.pmts (sym (ap edits_pmt at)) (ap pmt_by (sym q)))
    ∙ ap (λ f. made_by way words f met c.args.packet.now) (sym c.in-EditPmt.is)

pub returns-in_ok-pmt-in-EditPmt-clause-stands : goal.returns-in_ok-pmt-in-EditPmt-clause-stands
returns-in_ok-pmt-in-EditPmt-clause-stands c = λ way words met h e q.
    let at = sym c.in-EditPmt.is ∙ e in
    record {
      pats = pats-else way words met c.args.packet.now EditPmt at c.args.self.now.pat refl h.pats;
      sdts = sdts-else way words met c.args.packet.now EditPmt at c.args.self.now.sdt refl h.sdts;
      nits = nits-else way words met c.args.packet.now EditPmt at c.args.self.now.nit refl h.nits;
      eits = eits-else way words met c.args.packet.now EditPmt at c.args.self.now.eit c.other_packets_change_nothing.ensures refl h.eits;
      pmts = c.in_ok-pmt-in-EditPmt.ensures.stands (is_edited way words) (pmt_edit way words) met h.pmts (sym (ap edits_pmt at)) (ap pmt_by (sym q));
    }

pub returns-in-Pass-clause-stands : goal.returns-in-Pass-clause-stands
returns-in-Pass-clause-stands c = λ way words met h e q.
    let at = sym c.in-Pass.is ∙ e in
    record {
      pats = pats-else way words met c.args.packet.now Pass at c.args.self.now.pat refl h.pats;
      sdts = sdts-else way words met c.args.packet.now Pass at c.args.self.now.sdt refl h.sdts;
      nits = nits-else way words met c.args.packet.now Pass at c.args.self.now.nit refl h.nits;
      eits = eits-else way words met c.args.packet.now Pass at c.args.self.now.eit c.other_packets_change_nothing.ensures refl h.eits;
      pmts = c.untaken_packets_change_nothing.ensures c.args.self.now.pmts (is_edited way words) (pmt_edit way words) met c.args.packet.now h.pmts (sym (ap edits_pmt at));
    }

pub returns-in-Drop-clause-stands : goal.returns-in-Drop-clause-stands
returns-in-Drop-clause-stands c = λ way words met h e q.
    let at = sym c.in-Drop.is ∙ e in
    record {
      pats = pats-else way words met c.args.packet.now Drop at c.args.self.now.pat refl h.pats;
      sdts = sdts-else way words met c.args.packet.now Drop at c.args.self.now.sdt refl h.sdts;
      nits = nits-else way words met c.args.packet.now Drop at c.args.self.now.nit refl h.nits;
      eits = eits-else way words met c.args.packet.now Drop at c.args.self.now.eit c.other_packets_change_nothing.ensures refl h.eits;
      pmts = c.untaken_packets_change_nothing.ensures c.args.self.now.pmts (is_edited way words) (pmt_edit way words) met c.args.packet.now h.pmts (sym (ap edits_pmt at));
    }

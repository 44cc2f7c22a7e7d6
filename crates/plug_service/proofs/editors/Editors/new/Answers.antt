use Rattle.std.proofs.Common.{[], sym, subst}
use Rattle.plug_psi.specs.VariedStands.{Varies}
use Rattle.plug_service.specs.ServiceEdits.{eit_edit, nit_by, nit_edit, pat_by, pat_edit, pmt_edit, sdt_by, sdt_edit}
use Rattle.plug_service.specs.ServiceRule.{is_edited}
use Rattle.plug_service.proofs.editors.Editors.new.Goals as goal

pub returns : goal.returns
returns c = λ way words. record {
  pats = subst (λ part. Varies (pat_by part.present) c.in_ok-pat.pat 0 (pat_edit way words) []) (sym c.in_ok-pat.ensures.edit) (c.in_ok-pat.ensures.fresh (pat_edit way words));
  sdts = subst (λ part. Varies (sdt_by part.present) c.in_ok-sdt.sdt 17 (sdt_edit way words) []) (sym c.in_ok-sdt.ensures.edit) (c.in_ok-sdt.ensures.fresh (sdt_edit way words));
  nits = λ edits. subst (λ part. Varies (nit_by part.present) c.in_ok-nit.nit 16 (nit_edit way words) []) (sym c.in_ok-nit.ensures.edit) (c.in_ok-nit.ensures.fresh (nit_edit way words));
  eits = λ edits. c.in_ok-eit.ensures (eit_edit way words);
  pmts = c.new-5.ensures (is_edited way words) (pmt_edit way words);
}

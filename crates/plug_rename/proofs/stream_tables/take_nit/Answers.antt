use Rattle.std.proofs.Common.{[], ◌∷◌, ◌++◌, ◌∙◌, ap, subst, sym}
use Rattle.plug_psi.specs.InForce.{pat_of}
use Rattle.plug_psi.specs.VariedStands.{Varies, edit_in}
use Rattle.plug_rename.specs.Renaming.{nit_change, nit_edit}
use Rattle.plug_rename.proofs.EditLemmas.{nit-wanted}
use Rattle.plug_rename.proofs.stream_tables.take_nit.Goals as goal

pub returns-clause-made : goal.returns-clause-made
returns-clause-made c = λ conf met h numbered at e.
    c.in_ok-new.ensures.replaced 16 (nit_edit conf) met (c.in_ok-set_stream.ensures.stands 16 (nit_edit conf) met (h.varies numbered)) at
    (nit-wanted conf (edit_in c.args.editor.now) (edit_in c.set_stream.new.editor) c.args.stream (pat_of (met ++ c.args.packet.now ∷ []))
    h.same_service h.same_id c.in_ok-set_stream.ensures.edit e)

pub returns-clause-stands : goal.returns-clause-stands
returns-clause-stands c = λ conf met h numbered at e.
    let same = c.in_ok-new.ensures.same_edit in
    record {
      same_service = ap (λ part. part.service) (same ∙ c.in_ok-set_stream.ensures.edit) ∙ h.same_service;
      same_id = ap (λ part. part.id) (same ∙ c.in_ok-set_stream.ensures.edit) ∙ h.same_id;
      varies = λ still.
          subst (λ part. Varies (nit_change part.service part.id part.stream) c.take.new.self 16 (nit_edit conf) (met ++ c.args.packet.now ∷ [])) (sym same)
          (c.in_ok-new.ensures.stands 16 (nit_edit conf) met (c.in_ok-set_stream.ensures.stands 16 (nit_edit conf) met (h.varies numbered)) at
          (nit-wanted conf (edit_in c.args.editor.now) (edit_in c.set_stream.new.editor) c.args.stream (pat_of (met ++ c.args.packet.now ∷ []))
          h.same_service h.same_id c.in_ok-set_stream.ensures.edit e));
    }

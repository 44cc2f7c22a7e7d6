use Rattle.std.proofs.Common.{[], ◌∷◌, ◌++◌, ◌∙◌, ap, subst, sym}
use Rattle.plug_psi.specs.InForce.{pat_of}
use Rattle.plug_psi.specs.VariedStands.{Varies, edit_in}
use Rattle.plug_rename.specs.Renaming.{sdt_change, sdt_edit}
use Rattle.plug_rename.proofs.EditLemmas.{sdt-wanted}
use Rattle.plug_rename.proofs.stream_tables.take_sdt.Goals as goal

pub returns-clause-made : goal.returns-clause-made
returns-clause-made c = λ conf met h at e.
    c.in_ok-new.ensures.replaced 17 (sdt_edit conf) met (c.in_ok-set_stream.ensures.stands 17 (sdt_edit conf) met h.varies) at
    (sdt-wanted conf (edit_in c.args.editor.now) (edit_in c.set_stream.new.editor) c.args.stream (pat_of (met ++ c.args.packet.now ∷ []))
    h.same_conf c.in_ok-set_stream.ensures.edit e)

pub returns-clause-stands : goal.returns-clause-stands
returns-clause-stands c = λ conf met h at e.
    let same = c.in_ok-new.ensures.same_edit in
    record {
      same_conf = ap (λ part. part.conf) (same ∙ c.in_ok-set_stream.ensures.edit) ∙ h.same_conf;
      varies = subst (λ part. Varies (sdt_change part.conf part.stream) c.take.new.self 17 (sdt_edit conf) (met ++ c.args.packet.now ∷ [])) (sym same)
          (c.in_ok-new.ensures.stands 17 (sdt_edit conf) met (c.in_ok-set_stream.ensures.stands 17 (sdt_edit conf) met h.varies) at
          (sdt-wanted conf (edit_in c.args.editor.now) (edit_in c.set_stream.new.editor) c.args.stream (pat_of (met ++ c.args.packet.now ∷ []))
          h.same_conf c.in_ok-set_stream.ensures.edit e));
    }

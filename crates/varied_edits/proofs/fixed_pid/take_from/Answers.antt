use Rattle.std.proofs.Common.{[], ◌∷◌, ◌++◌, ap, sym, ◌∙◌, subst}
use Rattle.plug_psi.specs.VariedStands.{Varies}
use Rattle.varied_edits.proofs.fixed_pid.take_from.Goals as goal

pub returns-clause-replaced : goal.returns-clause-replaced
returns-clause-replaced g c = λ pid wanted met h at e.
    c.in_ok-new.ensures.replaced pid wanted met (c.in_ok-set_from.ensures.stands pid wanted met h) at (e ∙ sym c.in_ok-set_from.ensures.edit)

pub returns-clause-stands : goal.returns-clause-stands
returns-clause-stands g c = λ pid wanted met h at e.
    subst (λ w. Varies w c.take.new.self pid wanted (met ++ c.args.packet.now ∷ [])) (ap g.E.TableEdit.change (sym c.in_ok-new.ensures.same_edit))
    (c.in_ok-new.ensures.stands pid wanted met (c.in_ok-set_from.ensures.stands pid wanted met h) at (e ∙ sym c.in_ok-set_from.ensures.edit))

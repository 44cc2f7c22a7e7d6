use Rattle.std.proofs.Common.{ap, sym, ◌∙◌, subst}
use Rattle.plug_psi.specs.VariedStands.{Varies}
use Rattle.varied_edits.proofs.fixed_pid.set_from.Goals as goal

pub returns-then-is_from-clause-edit : goal.returns-then-is_from-clause-edit
returns-then-is_from-clause-edit g c = ap g.E.TableEdit.change (sym c.edit.ensures) ∙ c.is_from.ensures c.if-is_from.true

pub returns-clause-stands : goal.returns-clause-stands
returns-clause-stands g c = λ pid wanted met h.
    subst (λ w. Varies w c.set_edit.new.self pid wanted met) (ap g.E.TableEdit.change (sym c.set_edit.ensures.edit)) (c.set_edit.ensures.stands pid wanted met h)

pub returns-clause-edit : goal.returns-clause-edit
returns-clause-edit g c = ap g.E.TableEdit.change c.set_edit.ensures.edit ∙ c.in_ok-edit.ensures

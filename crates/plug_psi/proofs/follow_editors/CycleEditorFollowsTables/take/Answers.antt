use Rattle.std.proofs.Common.{[], ◌∷◌, ◌++◌, refl, ap, sym, ◌∙◌, subst}
use Rattle.plug_psi.specs.CycleStands.{InCycles, edit_of}
use Rattle.plug_psi.specs.EditedCycles.{replaced}
use Rattle.plug_psi.proofs.follow_editors.CycleEditorFollowsTables.take.Goals as goal

pub returns-clause-stands : goal.returns-clause-stands
returns-clause-stands g c = λ seed pid taken h completes.
    let own = g.E.TableEdit.change (edit_of c.args.self.now) in
    let before = subst (λ w. InCycles w c.args.self.now pid taken) (sym h.same_change) h.stands in
    record {
      same_change = ap g.E.TableEdit.change c.in_ok-new.ensures.same_edit ∙ h.same_change;
      stands = subst (λ w. InCycles w c.advance.new.self pid (taken ++ c.args.packet.now ∷ [])) h.same_change (c.in_ok-new.ensures.stands pid (λ s. own) taken before refl completes);
    }

pub returns-clause-tells : goal.returns-clause-tells
returns-clause-tells g c = λ seed pid taken h completes.
    let own = g.E.TableEdit.change (edit_of c.args.self.now) in
    let before = subst (λ w. InCycles w c.args.self.now pid taken) (sym h.same_change) h.stands in
    c.in_ok-new.ensures.replaced pid (λ s. own) taken before refl completes ∙ ap (λ w. replaced pid w taken c.args.packet.now) h.same_change

use Rattle.std.proofs.Common.{◌≡◌, ℕ, ◌++◌, ◌∷◌, [], List, false, IfOk, sym, subst, ◌∙◌}
use Rattle.plug_rename.specs.RenameState.{Renames}
use Rattle.plug_rename.specs.RenameTurns.{is_refusal}
use Rattle.plug_rename.proofs.StepLemmas.{renames-latched}
use Rattle.plug_rename.proofs.rename_steps.RenameSteps.take.Goals as goal

pub returns-clause-stands : goal.returns-clause-stands
returns-clause-stands c = λ met h works goes_on.
    let after = subst (λ r. IfOk r (λ turn. is_refusal turn ≡ false → (met : List (List ℕ)) → Renames c.args.self.now.conf c.args.self.now met
    → Renames c.args.self.now.conf c.advance-answer.new.self (met ++ c.args.packet.now ∷ []))) (sym c.in_ok-turn.ensures.same) c.advance-answer.ensures.stands
    (sym c.is_refusal-self.ensures ∙ goes_on) met (h c.in_ok-check.ensures.unset c.if-self.false) in
    renames-latched c.args.self.now c.advance-answer.new.self c.note.new.self c.is_refusal-self.result (met ++ c.args.packet.now ∷ []) c.advance-answer.ensures.conf after

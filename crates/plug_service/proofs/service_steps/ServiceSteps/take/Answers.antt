use Rattle.std.proofs.Common.{ℕ, ◌++◌, ◌∷◌, [], List, IsOk, OnOk, sym, subst, true≢false}
use Rattle.named_services.specs.declared.service_word.ServiceWord.{ServiceWord}
use Rattle.plug_service.specs.ServiceState.{Served}
use Rattle.plug_service.specs.declared.way.Way.{Way}
use Rattle.plug_service.proofs.StepLemmas.{served-latched}
use Rattle.plug_service.proofs.service_steps.ServiceSteps.take.Goals as goal

pub returns-clause-stands : goal.returns-clause-stands
returns-clause-stands c = λ met h latched.
    let after = subst (λ r. OnOk r ((way : Way) (words : List ServiceWord) (met : List (List ℕ)) → Served way words c.args.self.now met
    → Served way words c.advance-answer.new.self (met ++ c.args.packet.now ∷ []))) (sym c.in_ok-passes.ensures.same) c.advance-answer.ensures.stands
    c.args.self.now.way c.args.self.now.words met (h c.in_ok-check.ensures.unset) in
    served-latched c.args.self.now c.advance-answer.new.self c.note.new.self (met ++ c.args.packet.now ∷ []) c.advance-answer.ensures.way c.advance-answer.ensures.words after

pub returns-in_err-passes-clause-quiet : goal.returns-in_err-passes-clause-quiet
returns-in_err-passes-clause-quiet c = λ met works h unread.
    absurd (true≢false (sym (subst IsOk (sym c.in_err-passes.ensures.same)
    (c.advance-answer.ensures.quiet c.args.self.now.way c.args.self.now.words met (h works) unread))))

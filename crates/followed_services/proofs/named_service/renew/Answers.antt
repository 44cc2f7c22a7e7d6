use Rattle.std.proofs.Common.{◌++◌, ◌∷◌, [], sym, ◌∙◌}
use Rattle.followed_services.proofs.named_service.renew.Goals as goal

pub returns-then-not-other-clause-number : goal.returns-then-not-other-clause-number
returns-then-not-other-clause-number c = λ word met h is. is ∙ sym (c.in_ok-other.ensures.same c.if-not-other.true word met h)

pub returns-clause-number : goal.returns-clause-number
returns-clause-number c = λ word met h is. c.number.ensures word (met ++ c.args.packet.now ∷ []) (c.in_ok-other.ensures.stands word met h)

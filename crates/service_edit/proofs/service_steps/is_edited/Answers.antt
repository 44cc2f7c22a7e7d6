use Rattle.std.proofs.Common.{ap, ◌∙◌}
use Rattle.plug_psi.specs.InForce.{pid_for}
use Rattle.service_edit.specs.ServiceRule.{is_at}
use Rattle.service_edit.proofs.service_steps.is_edited.Goals as goal

pub returns-clause-tells : goal.returns-clause-tells
returns-clause-tells c = λ met forced.
    c.is_at.ensures.tells
    ∙ ap (λ own. is_at own c.args.pid) (c.pid_of_service.ensures ∙ ap (λ pat. pid_for pat c.args.service) (c.pat.ensures met forced))

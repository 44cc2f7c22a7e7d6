use Rattle.std.proofs.Common.{◌∙◌}
use Rattle.plug_service.specs.declared.action.Action.TheVariants.{Drop}
use Rattle.plug_service.proofs.pid_actions.PidActions.action.Goals as goal

pub returns-clause-tells : goal.returns-clause-tells
returns-clause-tells c = λ present pat pmts h. c.get.ensures Drop ∙ h c.args.pid c.requires

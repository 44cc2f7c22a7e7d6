use Rattle.plug_service.proofs.StepLemmas.{met-dropped}
use Rattle.plug_service.proofs.service_steps.ServiceStepsSteps.pass_over.Goals as goal

pub returns-clause-meets : goal.returns-clause-meets
returns-clause-meets c = λ history mark s count. met-dropped c.args.self.now mark history s

use Rattle.plug_eit.proofs.Taking.{met-dropped}
use Rattle.plug_eit.proofs.eit.EitStepsSteps.pass_over.Goals as goal

pub returns-clause-meets : goal.returns-clause-meets
returns-clause-meets c = λ history mark stands count. met-dropped c.args.self.now mark history stands

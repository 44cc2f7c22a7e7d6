use Rattle.plug_rename.proofs.StepLemmas.{met-dropped}
use Rattle.plug_rename.proofs.rename_steps.RenameStepsSteps.pass_over.Goals as goal

pub returns-clause-meets : goal.returns-clause-meets
returns-clause-meets c = λ history mark s count. met-dropped c.args.self.now mark history s

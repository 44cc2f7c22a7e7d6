use Rattle.plug_eit.proofs.Taking.{met-failed, met-more}
use Rattle.plug_eit.proofs.eit.EitStepsSteps.step.Goals as goal

pub returns-in-Ok-clause-meets : goal.returns-in-Ok-clause-meets
returns-in-Ok-clause-meets c = λ history mark stands count.
    let told = c.in-Ok.ensures in
    met-more c.args.self.now c.take.new.self mark history told.conf stands c.args.packet.now c.args._labels.now c.args.at count told.stands told.found

pub returns-in-Err-clause-meets : goal.returns-in-Err-clause-meets
returns-in-Err-clause-meets c = λ history mark stands count.
    let told = c.in-Err.ensures in
    met-failed c.args.self.now c.take.new.self mark history told.conf stands told.spent told.not_found

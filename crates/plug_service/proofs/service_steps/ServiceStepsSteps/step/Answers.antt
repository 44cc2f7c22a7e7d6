use Rattle.plug_service.proofs.StepLemmas.{met-failed, met-more}
use Rattle.plug_service.proofs.service_steps.ServiceStepsSteps.step.Goals as goal

pub returns-in-Ok-true-clause-meets : goal.returns-in-Ok-true-clause-meets
returns-in-Ok-true-clause-meets c = λ history mark s count.
    let told = c.in-Ok-true.ensures in
    met-more c.args.self.now c.take.new.self mark history told.way told.words s c.args.packet.now c.args._labels.now c.args.at count told.stands told.found

pub returns-then-not-self-clause-meets : goal.returns-then-not-self-clause-meets
returns-then-not-self-clause-meets c = λ history mark s count.
    let told = c.in-Ok-false.ensures in
    met-more c.args.self.now c.take.new.self mark history told.way told.words s c.args.packet.now c.args._labels.now c.args.at count told.stands told.found

pub returns-else-not-self-clause-meets : goal.returns-else-not-self-clause-meets
returns-else-not-self-clause-meets c = λ history mark s count.
    let told = c.in-Ok-false.ensures in
    met-more c.args.self.now c.take.new.self mark history told.way told.words s c.args.packet.now c.args._labels.now c.args.at count told.stands told.found

pub returns-in-Err-clause-meets : goal.returns-in-Err-clause-meets
returns-in-Err-clause-meets c = λ history mark s count.
    let told = c.in-Err.ensures in
    met-failed c.args.self.now c.take.new.self mark history told.way told.words s told.spent told.not_found

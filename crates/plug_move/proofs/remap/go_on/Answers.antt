use Rattle.plug_move.proofs.StepLemmas.{went-on}
use Rattle.plug_move.proofs.remap.go_on.Goals as goal

pub returns-in-Ok-clause-made : goal.returns-in-Ok-clause-made
returns-in-Ok-clause-made c =
    went-on c.args.tables.now c.in-Some.mapper c.step.new.self c.args.target c.args.packet.now c.step.new.packet c.in-Some.is
    (λ e. c.in-Ok.ensures.stays_spent e) c.in-Ok.ensures.mapped c.in-Ok.ensures.stands

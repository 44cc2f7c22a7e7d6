use Rattle.monitor_keys.proofs.Seeing.{since_live}
use Rattle.monitor_keys.proofs.since_look.SinceLook.meet.Goals as goal

pub returns-clause-stands : goal.returns-clause-stands
returns-clause-stands c = λ pid kind history packet labels is span_is one_is.
    since_live pid kind c.args.self.now history packet c.args.span.now c.args.is_one is span_is one_is labels c.with.result c.with.ensures

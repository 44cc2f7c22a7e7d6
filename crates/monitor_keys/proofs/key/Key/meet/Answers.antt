use Rattle.std.proofs.Common.{◌∙◌}
use Rattle.monitor_keys.proofs.Keeping.{gap_live, key_live}
use Rattle.monitor_keys.proofs.key.Key.meet.Goals as goal

pub returns-clause-stands : goal.returns-clause-stands
returns-clause-stands c = λ rule history packet labels is span_is occurs_is due_is.
    key_live rule c.args.self.now history packet c.args.span.now c.args.occurs c.args.is_due is span_is occurs_is due_is labels c.with.result c.with.ensures

pub returns-clause-tells : goal.returns-clause-tells
returns-clause-tells c = λ rule history packet is span_is occurs_is due_is.
    c.gap_told-gap.ensures
    ∙ gap_live rule c.args.self.now history packet c.args.span.now c.args.occurs c.args.is_due is span_is occurs_is due_is

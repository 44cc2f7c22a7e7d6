use Rattle.std.proofs.Common.{sym, ◌∙◌, ap, arith}
use Rattle.ts_packetize.proofs.Filling.{left_after}
use Rattle.ts_packetize.proofs.Laying.{rest_of, step-alone, step-begins}
use Rattle.ts_packetize.proofs.packing.rest_after.Goals as goal

pub returns-then-goes_on_alone : goal.returns-then-goes_on_alone
returns-then-goes_on_alone c =
    rest_of c.min.result c.args.rest.now
    ∙ left_after c.min.result 184 c.args.rest.now (omega arith) (λ h. omega arith)
    ∙ sym (ap (λ step. step.rest) (step-alone c.args.rest.now c.args.waiting.now (sym c.goes_on_alone.ensures.alone ∙ c.if-goes_on_alone.true)))

pub returns : goal.returns
returns c =
    c.missing.ensures ∙ sym (ap (λ step. step.rest) (step-begins c.args.rest.now c.args.waiting.now (sym c.goes_on_alone.ensures.alone ∙ c.if-goes_on_alone.false)))

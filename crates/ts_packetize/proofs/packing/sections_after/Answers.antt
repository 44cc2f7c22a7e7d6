use Rattle.std.proofs.Common.{sym, ◌∙◌, ap}
use Rattle.ts_packetize.proofs.Laying.{step-alone, step-begins}
use Rattle.ts_packetize.proofs.packing.sections_after.Goals as goal

pub returns-then-goes_on_alone : goal.returns-then-goes_on_alone
returns-then-goes_on_alone c =
    sym (ap (λ step. step.sections) (step-alone c.args.rest.now c.args.waiting.now (sym c.goes_on_alone.ensures.alone ∙ c.if-goes_on_alone.true)))

pub returns : goal.returns
returns c =
    c.not_begun.ensures ∙ sym (ap (λ step. step.sections) (step-begins c.args.rest.now c.args.waiting.now (sym c.goes_on_alone.ensures.alone ∙ c.if-goes_on_alone.false)))

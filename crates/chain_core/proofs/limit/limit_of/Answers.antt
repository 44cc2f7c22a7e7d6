use Rattle.std.proofs.Common.{◌∙◌, Option, ℕ, ap, arith}
use Rattle.chain_core.specs.CoreNumbers.{progress_in, greatest_more}
use Rattle.chain_core.proofs.LimitLaws.{limit-none, limit-next, limit-upto, limit-all}
use Rattle.chain_core.proofs.limit.limit_of.Goals as goal

pub loop-stage-init : goal.loop-stage-init
loop-stage-init c = (limit-none c.args.users (λ k. (progress_in c.args.progress.now k).agreed), omega arith)

pub loop-stage-preserved : goal.loop-stage-preserved
loop-stage-preserved c =
    let f : ℕ → Option ℕ = λ k. (progress_in c.args.progress.now k).agreed in
    let next = c.in-Some.ensures.some in let lt = next.within in (
      limit-next c.args.users f c.loop-stage.from c.in-Some.stage c.loop-stage.asked c.loop-stage.limit c.joined-limit.result c.loop-stage.invariant.0 next
          (c.joined-limit.ensures ∙ ap (greatest_more c.loop-stage.asked c.loop-stage.limit) c.agreed_at.ensures),
      omega (arith, lt),
    )

pub loop-stage-smaller : goal.loop-stage-smaller
loop-stage-smaller c =
    let next = c.in-Some.ensures.some in let lt = next.within in let le = next.from_on in omega (arith, lt, le)

pub returns : goal.returns
returns c =
    let f : ℕ → Option ℕ = λ k. (progress_in c.args.progress.now k).agreed in
    limit-all c.args.users f c.loop-stage.asked c.loop-stage.limit
    (limit-upto c.args.users f c.loop-stage.from 64 c.loop-stage.asked c.loop-stage.limit c.loop-stage.invariant.0 c.loop-stage.invariant.1 (λ k le lt. c.in_default.ensures.none k le))

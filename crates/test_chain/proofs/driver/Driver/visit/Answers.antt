use Rattle.std.proofs.Common.{◌∙◌, sym, ap}
use Rattle.chain_core.specs.Numbers.{limit_of}
use Rattle.chain_core.specs.CoreNumbers.{progress_of_core}
use Rattle.test_chain.proofs.DriverLemmas.{limit_now, told_is}
use Rattle.test_chain.proofs.driver.Driver.visit.Goals as goal

pub invariant_of-self : goal.invariant_of-self
invariant_of-self c =
    let inv = c.self.invariant in let old = c.self.inside.core in let new = c.visit-news.new.self in let step = c.args.step in let told = c.told_by-self-inside in let v = c.visit-news in (
      inv.0,
      v.ensures.plan ∙ inv.1,
      told_is c.one_visit.ensures.changes old new step.stage step.done step.word v.result v.ensures.visited v.ensures.numbers c.self.inside.plan.plugins c.self.inside.told told.result (sym (ap (λ p. p.plugins) inv.1)) inv.2 told.ensures.output told.ensures.other,
      λ n is. sym (ap (λ p. limit_of p (progress_of_core new)) inv.1) ∙ (limit_now c.one_visit.ensures.changes old new step.stage step.done step.word v.result v.ensures.visited v.ensures.numbers ∙ is),
    )

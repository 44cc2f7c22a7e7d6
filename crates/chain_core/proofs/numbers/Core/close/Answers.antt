use Rattle.std.proofs.Common.{length, map, ap, ◌∙◌, Option}
use Rattle.std.specs.Prelude.{unwrap_or}
use Rattle.chain_model.specs.Cut.{cause_among}
use Rattle.chain_model.specs.Joint.{greatest_if_all}
use Rattle.chain_core.specs.Stages.{stages_of}
use Rattle.chain_core.specs.Close.{least_among, closed_of}
use Rattle.chain_core.specs.CoreNumbers.{CoreNumbers, progress_in, progress_of_core, endings_before}
use Rattle.chain_core.proofs.CoreLaws.{stands-closed}
use Rattle.chain_core.proofs.RowLaws.{closed-is}
use Rattle.chain_core.proofs.numbers.Core.close.Goals as goal

pub returns-clause-numbers : goal.returns-clause-numbers
returns-clause-numbers c =
    closed-is c.self.inside.plan c.self.inside.progress.items c.limit_of-limit.result c.unwrap_or-cut.result c.cause_at.result c.self.invariant
    (c.limit_of-limit.ensures ∙ (λ i. greatest_if_all (map (λ k. (progress_in (c.deref.ensures.value i) k).agreed) (stages_of c.self.inside.plan.users))))
    (c.unwrap_or-cut.ensures ∙ ap (λ (o : Option _). unwrap_or o 0) (c.least_end.ensures ∙ (λ i. least_among c.limit_of-limit.result (endings_before (progress_in (c.deref-2.ensures.value i)) (length (c.deref-2.ensures.value i))))))
    (c.cause_at.ensures ∙ (λ i. cause_among c.unwrap_or-cut.result c.limit_of-limit.result (endings_before (progress_in (c.deref-3.ensures.value i)) (length (c.deref-3.ensures.value i)))))
    ∙ ap (λ (core : CoreNumbers). closed_of core.plan (progress_of_core core)) c.self.view_is

pub returns-clause-machine : goal.returns-clause-machine
returns-clause-machine c state stands =
    returns-clause-numbers c ∙ stands-closed c.args.self state stands

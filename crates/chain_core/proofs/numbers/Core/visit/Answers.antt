use Rattle.std.proofs.Common.{◌≡◌, ◌+◌, length, map, ap, sym, ◌∙◌, subst}
use Rattle.chain_model.specs.Joint.{greatest_if_all}
use Rattle.chain_core.specs.declared.core_plan.CorePlan.{CorePlan}
use Rattle.chain_core.specs.Stages.{stages_of}
use Rattle.chain_core.specs.Numbers.{limit_of, news_of}
use Rattle.chain_core.specs.Machine.{visited}
use Rattle.chain_core.specs.CoreNumbers.{CoreNumbers, progress_in, progress_of_core, noted_numbers}
use Rattle.chain_core.proofs.CoreLaws.{has-progress, stands-visited, stands-allowed, stands-news, served-limit_numbers}
use Rattle.chain_core.proofs.numbers.Core.visit.Goals as goal

pub news-requires-clause-limit : goal.news-requires-clause-limit
news-requires-clause-limit c =
    let size : length c.note.new.self.progress ≡ c.note.new.self.plan.plugins + 2 = subst (λ (core : CoreNumbers). length core.progress ≡ core.plan.plugins + 2) c.self.view_is c.self.invariant in
    let has = has-progress c.args.self.now c.note.new.self c.args.stage c.args.done c.args.word c.note.ensures size c.requires.is_stage in
    c.limit_of-limit.ensures
    ∙ ((λ i. greatest_if_all (map (λ k. (progress_in (c.deref.ensures.value i) k).agreed) (stages_of c.self.inside.plan.users)))
    ∙ (ap (λ (core : CoreNumbers). limit_of core.plan (progress_of_core core)) c.self.view_is
    ∙ (sym (served-limit_numbers c.note.new.self c.args.stage has.1)
    ∙ ap (λ (core : CoreNumbers). limit_of core.plan (progress_of_core core)) (sym c.serve.ensures))))

pub returns-clause-allowed : goal.returns-clause-allowed
returns-clause-allowed c state cells size stands =
    stands-allowed c.args.self.now state c.args.stage c.args.done cells c.args.word stands size c.requires

pub returns-clause-visited : goal.returns-clause-visited
returns-clause-visited c state cells size stands =
    let progress : length c.note.new.self.progress ≡ c.note.new.self.plan.plugins + 2 = subst (λ (core : CoreNumbers). length core.progress ≡ core.plan.plugins + 2) c.self.view_is c.self.invariant in
    let has = has-progress c.args.self.now c.note.new.self c.args.stage c.args.done c.args.word c.note.ensures progress c.requires.is_stage in
    stands-visited c.args.self.now c.note.new.self c.serve.new.self state c.args.stage cells c.args.word stands has.0 (c.note.ensures ∙ ap (λ n. noted_numbers c.args.self.now c.args.stage n c.args.word) (sym size)) c.serve.ensures

pub returns-clause-news : goal.returns-clause-news
returns-clause-news c state cells size stands =
    let new = returns-clause-visited c state cells size stands in
    let plan : c.serve.new.self.plan ≡ c.args.self.now.plan = ap (λ (core : CoreNumbers). core.plan) (c.serve.ensures) ∙ ap (λ (core : CoreNumbers). core.plan) c.note.ensures in
    c.news.ensures ∙ (ap (λ (plan : CorePlan). news_of plan (progress_of_core c.serve.new.self) c.args.stage) plan ∙ stands-news c.args.self.now.plan c.serve.new.self (visited c.args.self.now.plan state (record { stage = c.args.stage; cells = cells; word = c.args.word })) c.args.stage new)

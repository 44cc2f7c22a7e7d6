use Rattle.std.proofs.Common.{◌≡◌, ◌+◌, ℕ, [], Some, inl, refl, sym, ap, arith, ◌∙◌, add-zero}
use Rattle.chain_core.specs.declared.stage_end.StageEnd.TheVariants.{Input, Followed}
use Rattle.stage_run.specs.InputSteps.{FillsWindow}
use Rattle.stage_run.specs.Telling.{may_follow, followed}
use Rattle.stage_run.specs.InputStands.{InputStands}
use Rattle.stage_run.specs.Works.{AreFree, InputWorks}
use Rattle.stage_run.proofs.InputWorking.{plain_work, works_following, works_at_limit, works_filled}
use Rattle.stage_run.proofs.PluginWorking.{FollowsNews-followed}
use Rattle.stage_run.proofs.WorkLemmas.{plain-stage, followed-memory}
use Rattle.stage_run.proofs.InputLemmas.{InputGoes-none}
use Rattle.stage_run.proofs.input_stage.InputStage.work_on_none.Goals as goal

pub returns-then-may_follow-clause-work : goal.returns-then-may_follow-clause-work
returns-then-may_follow-clause-work g c =
    let seen = g.S.Source.seen in
    let old = c.args.self.now in
    let news = c.args.news.now in
    let follows = sym c.may_follow.ensures ∙ c.if-may_follow.true in
    plain-stage (InputStands seen old) (InputStands seen old) (λ _. ⊥) AreFree (FillsWindow old) (λ w before. InputWorks seen old old before news [] [] w)
    c.args.at news [] [] c.ending.result 0 (Some Followed) c.ending.ensures (omega arith) tt (λ e. cc)
    (ap (may_follow news) (add-zero c.args.at) ∙ follows) (λ e. cc)
    (λ lists may. works_following seen old lists news [] c.args.at news.written may (omega arith) follows)

pub returns-then-at-eq-POSITION_LIMIT-clause-work : goal.returns-then-at-eq-POSITION_LIMIT-clause-work
returns-then-at-eq-POSITION_LIMIT-clause-work g c =
    let seen = g.S.Source.seen in
    let old = c.args.self.now in
    let new = c.end_at_limit.new.self in
    let news = c.args.news.now in
    plain-stage (InputStands seen old) (InputStands seen new) (λ _. ⊥) AreFree (FillsWindow new) (λ w before. InputWorks seen old new before news [] [] w)
    c.args.at news [] [] c.ending-then-at-eq-POSITION_LIMIT.result 0 (Some (Input c.end_at_limit.result)) c.ending-then-at-eq-POSITION_LIMIT.ensures
    (omega arith) tt (λ e. cc) tt (λ e. cc)
    (λ lists may. works_at_limit seen old new lists news [] c.args.at news.written c.end_at_limit.result may (omega arith)
    c.end_at_limit.ensures.goes c.end_at_limit.ensures.ends c.end_at_limit.ensures.stays_open)

pub returns-clause-work : goal.returns-clause-work
returns-clause-work g c =
    let seen = g.S.Source.seen in
    let old = c.args.self.now in
    let news = c.args.news.now in
    let told : c.ending-2.result ≡ plain_work 0 (followed news (c.args.at + 0)) =
    c.ending-2.ensures ∙ ap (plain_work 0) c.followed.ensures ∙ ap (λ (n : ℕ). plain_work 0 (followed news n)) (sym (add-zero c.args.at)) in
    plain-stage (InputStands seen old) (InputStands seen old) (λ _. ⊥) AreFree (FillsWindow old) (λ w before. InputWorks seen old old before news [] [] w)
    c.args.at news [] [] c.ending-2.result 0 (followed news (c.args.at + 0)) told
    (omega arith) tt (λ e. inl refl) (FollowsNews-followed news (c.args.at + 0)) (followed-memory news (c.args.at + 0))
    (λ lists may. works_filled seen old old lists news [] [] c.args.at news.written 0 may (omega arith) (omega arith) refl (omega arith) (inl refl)
    (λ l holds. InputGoes-none seen old l 0 holds) (λ was. was))

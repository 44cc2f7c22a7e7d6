use Rattle.std.proofs.Common.{◌≡◌, ◌+◌, ℕ, [], refl, sym, ap, arith, ◌∙◌, add-zero}
use Rattle.stage_run.specs.Telling.{followed}
use Rattle.stage_run.specs.OutputStands.{OutputStands}
use Rattle.stage_run.specs.Works.{OutputWorks, DoesAll, StayAsTheyWere}
use Rattle.stage_run.proofs.InputWorking.{plain_work}
use Rattle.stage_run.proofs.PluginWorking.{FollowsNews-followed}
use Rattle.stage_run.proofs.OutputWorking.{output_none}
use Rattle.stage_run.proofs.WorkLemmas.{plain-stage, followed-memory}
use Rattle.stage_run.proofs.output_stage.OutputStage.work_on_none.Goals as goal

pub returns : goal.returns
returns g c =
    let seen = g.K.Sink.seen in let old = c.args.self.now in let news = c.args.news.now in
    let told : c.ending.result ≡ plain_work 0 (followed news (c.args.at + 0)) =
    c.ending.ensures ∙ ap (plain_work 0) c.followed.ensures ∙ ap (λ (n : ℕ). plain_work 0 (followed news n)) (sym (add-zero c.args.at)) in
    plain-stage (OutputStands seen old) (OutputStands seen old) (λ _. ⊥) StayAsTheyWere DoesAll (λ w before. OutputWorks seen old old before news [] [] w)
    c.args.at news [] [] c.ending.result 0 (followed news (c.args.at + 0)) told
    (omega arith) refl (λ e. refl) (FollowsNews-followed news (c.args.at + 0)) (followed-memory news (c.args.at + 0))
    (λ lists may. output_none seen old lists news c.args.at news.written may)

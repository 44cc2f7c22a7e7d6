use Rattle.std.proofs.Common.{◌≡◌, ◌+◌, ◌≤◌, length, Option, sym, ap, subst, arith, ◌∙◌, add-zero}
use Rattle.chain_model.specs.declared.input_end.InputEnd.{InputEnd}
use Rattle.chain_core.specs.declared.stage_end.StageEnd.TheVariants.{Input, Followed}
use Rattle.std.proofs.Common.{Some}
use Rattle.stage_run.specs.InputSteps.{IsFilled, FillsWindow}
use Rattle.stage_run.specs.Telling.{may_follow, followed}
use Rattle.stage_run.specs.InputStands.{InputStands}
use Rattle.stage_run.specs.Works.{AreFree, InputWorks}
use Rattle.stage_run.proofs.InputWorking.{plain_work, works_following, works_at_limit, works_over, works_filled}
use Rattle.stage_run.proofs.PluginWorking.{FollowsNews-followed}
use Rattle.stage_run.proofs.WorkLemmas.{plain-stage, followed-memory}
use Rattle.stage_run.proofs.InputLemmas.{FeedStands-count}
use Rattle.stage_run.proofs.input_stage.InputStage.work.Goals as goal

pub fill_window-window-requires-clause-in_range : goal.fill_window-window-requires-clause-in_range
fill_window-window-requires-clause-in_range g c =
    let some = c.requires.stands.lists in
    let may = c.requires.stands.may in
    let holds = may.goes_on.holds in
    let put : length holds.rows ≤ length some.given = holds.put in
    let given : length some.given ≡ c.args.at = may.given in
    omega (arith, FeedStands-count g.S.Source.seen c.args.self.now.feed some.source some.read holds.rows c.args.self.now.ended holds.feed, c.requires.in_range)

pub returns-then-may_follow-clause-work : goal.returns-then-may_follow-clause-work
returns-then-may_follow-clause-work g c =
    let seen = g.S.Source.seen in
    let old = c.args.self.now in
    let cells = c.args.window.cells in
    let news = c.args.news.now in
    let follows = sym c.may_follow.ensures ∙ c.if-may_follow.true in
    plain-stage (InputStands seen old) (InputStands seen old) (λ _. ⊥) AreFree (FillsWindow old) (λ w before. InputWorks seen old old before news cells cells w)
    c.args.at news cells cells c.ending.result 0 (Some Followed) c.ending.ensures (omega arith) tt (λ e. cc)
    (ap (may_follow news) (add-zero c.args.at) ∙ follows) (λ e. cc)
    (λ lists may. works_following seen old lists news cells c.args.at news.written may (omega arith) follows)

pub returns-then-at-eq-POSITION_LIMIT-clause-work : goal.returns-then-at-eq-POSITION_LIMIT-clause-work
returns-then-at-eq-POSITION_LIMIT-clause-work g c =
    let seen = g.S.Source.seen in
    let old = c.args.self.now in
    let new = c.end_at_limit.new.self in
    let cells = c.args.window.cells in
    let news = c.args.news.now in
    plain-stage (InputStands seen old) (InputStands seen new) (λ _. ⊥) AreFree (FillsWindow new) (λ w before. InputWorks seen old new before news cells cells w)
    c.args.at news cells cells c.ending-then-at-eq-POSITION_LIMIT.result 0 (Some (Input c.end_at_limit.result)) c.ending-then-at-eq-POSITION_LIMIT.ensures
    (omega arith) tt (λ e. cc) tt (λ e. cc)
    (λ lists may. works_at_limit seen old new lists news cells c.args.at news.written c.end_at_limit.result may (omega arith)
    c.end_at_limit.ensures.goes c.end_at_limit.ensures.ends c.end_at_limit.ensures.stays_open)

pub returns-in-Some-clause-work : goal.returns-in-Some-clause-work
returns-in-Some-clause-work g c =
    let seen = g.S.Source.seen in
    let old = c.args.self.now in
    let new = c.fill_window-window.new.self in
    let cells = c.args.window.cells in
    let cells_new = c.fill_window-window.result.1.cells in
    let news = c.args.news.now in
    let done = c.fill_window-window.result.0.done in
    plain-stage (InputStands seen old) (InputStands seen new) (λ _. ⊥) AreFree (FillsWindow new) (λ w before. InputWorks seen old new before news cells cells_new w)
    c.args.at news cells cells_new c.ending-in-Some.result done (Some (Input c.in-Some.how)) c.ending-in-Some.ensures
    c.fill_window-window.ensures.done tt (λ e. cc) tt (λ e. cc)
    (λ lists may. works_over seen old new lists news cells cells_new c.args.at news.written done c.in-Some.how may
    (omega arith) (omega arith) c.fill_window-window.ensures.slots.2 c.fill_window-window.ensures.goes
    (subst (λ (o : Option InputEnd). IsFilled new (length cells) done o) c.in-Some.is c.fill_window-window.ensures.filled))

pub returns-in-None-clause-work : goal.returns-in-None-clause-work
returns-in-None-clause-work g c =
    let seen = g.S.Source.seen in
    let old = c.args.self.now in
    let new = c.fill_window-window.new.self in
    let cells = c.args.window.cells in
    let cells_new = c.fill_window-window.result.1.cells in
    let news = c.args.news.now in
    let done = c.fill_window-window.result.0.done in
    let fills : FillsWindow new (length cells) done = subst (λ (o : Option InputEnd). IsFilled new (length cells) done o) c.in-None.is c.fill_window-window.ensures.filled in
    plain-stage (InputStands seen old) (InputStands seen new) (λ _. ⊥) AreFree (FillsWindow new) (λ w before. InputWorks seen old new before news cells cells_new w)
    c.args.at news cells cells_new c.ending-in-None.result done (followed news (c.args.at + done)) (c.ending-in-None.ensures ∙ ap (plain_work done) c.followed.ensures)
    c.fill_window-window.ensures.done tt (λ e. fills) (FollowsNews-followed news (c.args.at + done)) (followed-memory news (c.args.at + done))
    (λ lists may. works_filled seen old new lists news cells cells_new c.args.at news.written done may (omega arith) (omega arith) c.fill_window-window.ensures.slots.2
    c.fill_window-window.ensures.done fills c.fill_window-window.ensures.goes (c.fill_window-window.ensures.stays_open c.in-None.is))

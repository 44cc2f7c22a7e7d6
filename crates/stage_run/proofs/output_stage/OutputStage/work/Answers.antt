use Rattle.std.proofs.Common.{◌≤◌, ◌+◌, length, Some, refl, sym, ap, subst, arith, ◌∙◌}
use Rattle.std.proofs.lemmas.List.{length-take}
use Rattle.cell_land.specs.Cells.{CellPiece}
use Rattle.chain_core.specs.declared.stage_end.StageEnd.TheVariants.{WriteFault}
use Rattle.stage_run.specs.Telling.{below_limit, followed}
use Rattle.stage_run.specs.OutputStands.{OutputStands}
use Rattle.stage_run.specs.Works.{OutputWork, OutputWorks, DoesAll, StayAsTheyWere}
use Rattle.stage_run.proofs.InputWorking.{plain_work}
use Rattle.stage_run.proofs.PluginWorking.{FollowsNews-followed}
use Rattle.stage_run.proofs.OutputWorking.{output_whole, output_cut, goes-past-limit}
use Rattle.stage_run.proofs.WorkLemmas.{plain-stage, followed-memory}
use Rattle.stage_run.proofs.output_stage.OutputStage.work.Goals as goal

pub returns-clause-work : goal.returns-clause-work
returns-clause-work g c =
    let seen = g.K.Sink.seen in
    let old = c.args.self.now in
    let new = c.write-done.new.self in
    let cells = c.args.window.cells in
    let news = c.args.news.now in
    let done = c.write-done.result.0 in
    let below = c.below_limit-len.ensures.below ∙ ap (below_limit news.limit c.args.at) c.len.ensures in
    let low : c.below_limit-len.result ≤ length cells = (let w = c.below_limit-len.ensures.within in let l = c.len.ensures in omega (arith, w, l)) in
    let few = c.write-done.ensures.within in
    let len = length-take c.below_limit-len.result cells in
    subst (λ l. OutputWork seen old new c.args.at news cells l c.ending-2.result) (sym (ap (λ (w : CellPiece). w.cells) c.write-done.ensures.same))
    (plain-stage (OutputStands seen old) (OutputStands seen new) (λ _. ⊥) StayAsTheyWere DoesAll (λ w before. OutputWorks seen old new before news cells cells w)
    c.args.at news cells cells c.ending-2.result done (followed news (c.args.at + done)) (c.ending-2.ensures ∙ ap (plain_work done) c.followed.ensures)
    (omega arith) refl
    (goes-past-limit news c.args.at done c.below_limit-len.result cells below (omega arith))
    (FollowsNews-followed news (c.args.at + done)) (followed-memory news (c.args.at + done))
    (λ lists may. output_whole seen old new lists news cells c.args.at news.written c.below_limit-len.result done may
    below low (omega arith) (let w = c.write-done.ensures.within in omega (arith, w, len, low)) c.write-done.ensures.writes))

pub returns-then-done-len-clause-work : goal.returns-then-done-len-clause-work
returns-then-done-len-clause-work g c =
    let seen = g.K.Sink.seen in
    let old = c.args.self.now in
    let new = c.write-done.new.self in
    let cells = c.args.window.cells in
    let news = c.args.news.now in
    let done = c.write-done.result.0 in
    let below = c.below_limit-len.ensures.below ∙ ap (below_limit news.limit c.args.at) c.len.ensures in
    let low : c.below_limit-len.result ≤ length cells = (let w = c.below_limit-len.ensures.within in let l = c.len.ensures in omega (arith, w, l)) in
    subst (λ l. OutputWork seen old new c.args.at news cells l c.ending.result) (sym (ap (λ (w : CellPiece). w.cells) c.write-done.ensures.same))
    (plain-stage (OutputStands seen old) (OutputStands seen new) (λ _. ⊥) StayAsTheyWere DoesAll (λ w before. OutputWorks seen old new before news cells cells w)
    c.args.at news cells cells c.ending.result done (Some WriteFault) c.ending.ensures (let a = low in omega arith) refl (λ e. cc) tt (λ e. cc)
    (λ lists may. output_cut seen old new lists news cells c.args.at news.written c.below_limit-len.result done may
    below low (omega arith) c.write-done.ensures.writes))

use Rattle.std.proofs.Common.{ap, arith}
use Rattle.chain_core.specs.declared.news.News.{News}
use Rattle.stage_run.specs.Seeing.{seeing}
use Rattle.stage_run.specs.PartStands.{PartStands}
use Rattle.test_chain.proofs.FreshLemmas.{works-on}
use Rattle.test_chain.proofs.stages.work.Goals as goal

pub returns-clause-again : goal.returns-clause-again
returns-clause-again g c = λ goes_on.
    works-on (PartStands (seeing g.S.Source.seen g.K.Sink.seen g.P.Plugin.rule g.P.Plugin.stands_for g.P.Plugin.preallocated) c.work-window.new.self)
    (PartStands (seeing g.S.Source.seen g.K.Sink.seen g.P.Plugin.rule g.P.Plugin.stands_for g.P.Plugin.preallocated) c.args.part.now)
    _ c.args.at c.requires.may c.news.result.written c.window_of-window.result.cells c.work-window.result.1.cells c.work-window.result.0
    (ap (λ (news : News). news.written) c.news.ensures) (c.work-window.ensures.work.stage.works c.requires.may.lists)
    goes_on c.work-window.ensures.work.stage.done (omega arith)

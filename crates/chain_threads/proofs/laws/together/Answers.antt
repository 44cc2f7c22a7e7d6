use Rattle.stage_run.specs.Seeing.{seeing}
use Rattle.chain_threads.proofs.EndLemmas as end
use Rattle.chain_threads.proofs.laws.together.Goals as goal

pub returns-clause-whole : goal.returns-clause-whole
returns-clause-whole g c = λ begun base table seats parts are.
    end.whole (seeing g.S.Source.seen g.K.Sink.seen g.P.Plugin.rule g.P.Plugin.stands_for g.P.Plugin.preallocated) begun base table seats parts are

pub returns-clause-closed : goal.returns-clause-closed
returns-clause-closed g c = λ begun base table seats parts closed are is.
    end.together (seeing g.S.Source.seen g.K.Sink.seen g.P.Plugin.rule g.P.Plugin.stands_for g.P.Plugin.preallocated) begun base table seats parts are c.run_laws.ensures c.one_run.ensures closed is

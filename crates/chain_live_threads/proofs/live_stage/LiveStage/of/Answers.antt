use Rattle.stage_run.specs.Seeing.{seeing}
use Rattle.chain_live_threads.proofs.ServeLemmas.{serves-new}
use Rattle.chain_live_threads.proofs.live_stage.LiveStage.of.Goals as goal

pub returns-clause-serves : goal.returns-clause-serves
returns-clause-serves g c = λ begun base table new.
    serves-new (seeing g.S.Source.seen g.K.Sink.seen g.P.Plugin.rule g.P.Plugin.stands_for g.P.Plugin.preallocated) begun base table c.run_laws.ensures c.args.part c.args.seat new

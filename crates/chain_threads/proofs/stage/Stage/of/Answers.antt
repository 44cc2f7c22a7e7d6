use Rattle.stage_run.specs.Seeing.{seeing}
use Rattle.chain_threads.proofs.NewLemmas.{new-stands}
use Rattle.chain_threads.proofs.stage.Stage.of.Goals as goal

pub returns-clause-stands : goal.returns-clause-stands
returns-clause-stands g c = λ begun base table new.
    new-stands (seeing g.S.Source.seen g.K.Sink.seen g.P.Plugin.rule g.P.Plugin.stands_for g.P.Plugin.preallocated) c.run_laws.ensures begun base table c.args.part c.args.seat new

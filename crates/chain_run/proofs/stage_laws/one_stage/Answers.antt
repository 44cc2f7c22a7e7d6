use Rattle.stage_run.specs.Seeing.{seeing}
use Rattle.chain_run.proofs.StageLawLemmas.{stage-laws}
use Rattle.chain_run.proofs.stage_laws.one_stage.Goals as goal

pub returns : goal.returns
returns g c = stage-laws (seeing g.S.Source.seen g.K.Sink.seen g.P.Plugin.rule g.P.Plugin.stands_for g.P.Plugin.preallocated) c.machine_laws.ensures

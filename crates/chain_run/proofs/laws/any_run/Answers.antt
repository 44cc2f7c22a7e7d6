use Rattle.stage_run.specs.Seeing.{seeing}
use Rattle.chain_run.proofs.EndLemmas.{are-stages, run-of, closes-told}
use Rattle.chain_run.proofs.laws.any_run.Goals as goal

pub returns-clause-stages : goal.returns-clause-stages
returns-clause-stages g c =
    are-stages (seeing g.S.Source.seen g.K.Sink.seen g.P.Plugin.rule g.P.Plugin.stands_for g.P.Plugin.preallocated)

pub returns-clause-ends : goal.returns-clause-ends
returns-clause-ends g c =
    run-of (seeing g.S.Source.seen g.K.Sink.seen g.P.Plugin.rule g.P.Plugin.stands_for g.P.Plugin.preallocated) c.machine_laws.ensures

pub returns-clause-told : goal.returns-clause-told
returns-clause-told g c =
    closes-told (seeing g.S.Source.seen g.K.Sink.seen g.P.Plugin.rule g.P.Plugin.stands_for g.P.Plugin.preallocated) c.machine_laws.ensures

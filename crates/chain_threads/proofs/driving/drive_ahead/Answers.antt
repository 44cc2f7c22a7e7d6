use Rattle.stage_run.specs.Seeing.{seeing}
use Rattle.chain_threads.proofs.Carries.{first_ready, first_carried}
use Rattle.chain_threads.proofs.driving.drive_ahead.Goals as goal

pub go_ahead-requires-clause-ready : goal.go_ahead-requires-clause-ready
go_ahead-requires-clause-ready g c = λ κs within.
    first_ready (seeing g.S.Source.seen g.K.Sink.seen g.P.Plugin.rule g.P.Plugin.stands_for g.P.Plugin.preallocated) c.args.ring.now c.args.stages.now c.index-stages-0.result c.requires.one c.requires.ready

pub returns : goal.returns
returns g c = record {
  carried = first_carried (seeing g.S.Source.seen g.K.Sink.seen g.P.Plugin.rule g.P.Plugin.stands_for g.P.Plugin.preallocated) c.args.ring.now c.args.stages.now c.index-stages-0.result c.go_ahead.new.stage c.requires.one c.go_ahead.ensures.keeps;
}

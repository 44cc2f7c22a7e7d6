use Rattle.stage_run.specs.Seeing.{seeing}
use Rattle.chain_live_threads.proofs.Carries.{first_ready, first_carried}
use Rattle.chain_live_threads.proofs.driving.drive_input.Goals as goal

pub drive_first-requires-clause-ready : goal.drive_first-requires-clause-ready
drive_first-requires-clause-ready g c = λ κs within.
    first_ready (seeing g.S.Source.seen g.K.Sink.seen g.P.Plugin.rule g.P.Plugin.stands_for g.P.Plugin.preallocated) c.args.ring.now c.args.input.now c.index-input-0.result c.requires.one c.requires.ready

pub returns : goal.returns
returns g c = record {
  carried = first_carried (seeing g.S.Source.seen g.K.Sink.seen g.P.Plugin.rule g.P.Plugin.stands_for g.P.Plugin.preallocated) c.args.ring.now c.args.input.now c.index-input-0.result c.drive_first.new.stage c.requires.one c.drive_first.ensures.keeps;
}

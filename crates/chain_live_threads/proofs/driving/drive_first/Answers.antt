use Rattle.stage_run.specs.Seeing.{seeing}
use Rattle.chain_live_threads.proofs.Carries.{one_still_ready}
use Rattle.chain_live_threads.proofs.driving.drive_first.Goals as goal

pub step-requires-clause-ready : goal.step-requires-clause-ready
step-requires-clause-ready g c = λ κs within.
    one_still_ready (seeing g.S.Source.seen g.K.Sink.seen g.P.Plugin.rule g.P.Plugin.stands_for g.P.Plugin.preallocated) c.args.ring.now c.args.stage.now c.loop.stage c.loop.invariant.2 c.requires.ready

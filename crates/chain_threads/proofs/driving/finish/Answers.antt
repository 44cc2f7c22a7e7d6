use Rattle.stage_run.specs.Seeing.{seeing}
use Rattle.chain_threads.proofs.Carries.{still_ready}
use Rattle.chain_threads.proofs.driving.finish.Goals as goal

pub round-requires-clause-ready : goal.round-requires-clause-ready
round-requires-clause-ready g c = λ κs within.
    still_ready (seeing g.S.Source.seen g.K.Sink.seen g.P.Plugin.rule g.P.Plugin.stands_for g.P.Plugin.preallocated) c.args.ring.now c.args.stages.now c.loop.stages c.loop.invariant.2 c.requires.ready

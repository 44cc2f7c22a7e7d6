use Rattle.stage_run.specs.Seeing.{seeing}
use Rattle.chain_threads.proofs.Carries.{still_ready}
use Rattle.chain_threads.proofs.threads.drive_all.Goals as goal

pub finish-requires-clause-ready : goal.finish-requires-clause-ready
finish-requires-clause-ready g c = λ κs within.
    still_ready (seeing g.S.Source.seen g.K.Sink.seen g.P.Plugin.rule g.P.Plugin.stands_for g.P.Plugin.preallocated) c.args.ring.now c.args.stages.now c.drive_apart.new.stages c.drive_apart.ensures.carried c.requires.ready

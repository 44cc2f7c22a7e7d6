use Rattle.stage_run.specs.Seeing.{seeing}
use Rattle.chain_live_threads.proofs.Carries.{one_still_ready}
use Rattle.chain_live_threads.proofs.live_stage.LiveStage.serve.Goals as goal

pub step-requires-in-Worked-clause-ready : goal.step-requires-in-Worked-clause-ready
step-requires-in-Worked-clause-ready g c = λ κs within. one_still_ready (seeing g.S.Source.seen g.K.Sink.seen g.P.Plugin.rule g.P.Plugin.stands_for g.P.Plugin.preallocated) c.args.ring.now c.args.self.now c.step.new.self c.in-Worked.ensures.keeps c.requires.ready

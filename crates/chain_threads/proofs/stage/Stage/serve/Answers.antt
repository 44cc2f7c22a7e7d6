use Rattle.stage_run.specs.Seeing.{seeing}
use Rattle.chain_threads.proofs.Carries.{one_still_ready}
use Rattle.chain_threads.proofs.stage.Stage.serve.Goals as goal

pub step-requires-in-Worked-after_bounds : goal.step-requires-in-Worked-after_bounds
step-requires-in-Worked-after_bounds g c κs within =
    one_still_ready (seeing g.S.Source.seen g.K.Sink.seen g.P.Plugin.rule g.P.Plugin.stands_for g.P.Plugin.preallocated) c.args.ring.now c.args.self.now c.step.new.self c.in-Worked.ensures.keeps c.requires

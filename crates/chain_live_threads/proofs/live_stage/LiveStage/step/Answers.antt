use Rattle.stage_run.specs.Seeing.{seeing}
use Rattle.chain_live_threads.proofs.Carries.{kept_same}
use Rattle.chain_live_threads.proofs.live_stage.LiveStage.step.Goals as goal

pub returns-then-self : goal.returns-then-self
returns-then-self g c =
    record { keeps = kept_same (seeing g.S.Source.seen g.K.Sink.seen g.P.Plugin.rule g.P.Plugin.stands_for g.P.Plugin.preallocated) c.args.ring.now c.args.self.now }

use Rattle.stage_run.specs.Seeing.{seeing}
use Rattle.chain_threads.proofs.Carries.{kept_same}
use Rattle.chain_threads.proofs.Stepping.{may_turn, stepped}
use Rattle.chain_threads.proofs.stage.Stage.step.Goals as goal

pub turn-turn-requires-after_bounds : goal.turn-turn-requires-after_bounds
turn-turn-requires-after_bounds g c = λ κs within.
    may_turn (seeing g.S.Source.seen g.K.Sink.seen g.P.Plugin.rule g.P.Plugin.stands_for g.P.Plugin.preallocated) c.args.ring.now c.args.self.now c.if-self.false c.requires

pub returns-then-self-clause-keeps : goal.returns-then-self-clause-keeps
returns-then-self-clause-keeps g c =
    kept_same (seeing g.S.Source.seen g.K.Sink.seen g.P.Plugin.rule g.P.Plugin.stands_for g.P.Plugin.preallocated) c.args.ring.now c.args.self.now

pub returns-clause-keeps : goal.returns-clause-keeps
returns-clause-keeps g c =
    stepped (seeing g.S.Source.seen g.K.Sink.seen g.P.Plugin.rule g.P.Plugin.stands_for g.P.Plugin.preallocated) c.args.ring.now c.turn-turn.result c.args.self.now c.turn-turn.new.self c.ends-self.result c.if-self.false c.ends-self.ensures c.turn-turn.ensures.stage c.turn-turn.ensures.behind

use Rattle.std.proofs.Common.{arith}
use Rattle.stage_run.specs.Seeing.{seeing}
use Rattle.chain_threads.proofs.Carries.{ready_first, ready_rest, over_empty}
use Rattle.chain_threads.proofs.driving.+round.Goals as goal

pub serve_first-first_ended-requires-clause-ready : goal.serve_first-first_ended-requires-clause-ready
serve_first-first_ended-requires-clause-ready g t c = λ κs within.
    ready_first (seeing g.S.Source.seen g.K.Sink.seen g.P.Plugin.rule g.P.Plugin.stands_for g.P.Plugin.preallocated) c.args.ring.now c.args.stages.now c.split_at_mut-first.result.0.now c.split_at_mut-first.result.1.now c.split_at_mut-first.ensures.value c.requires.ready

pub round-rest_ended-requires-clause-ready : goal.round-rest_ended-requires-clause-ready
round-rest_ended-requires-clause-ready g t c = λ κs within.
    ready_rest (seeing g.S.Source.seen g.K.Sink.seen g.P.Plugin.rule g.P.Plugin.stands_for g.P.Plugin.preallocated) c.args.ring.now c.args.stages.now c.split_at_mut-first.result.0.now c.split_at_mut-first.result.1.now c.split_at_mut-first.ensures.value c.requires.ready

pub returns-then-stages-eq0-clause-ended : goal.returns-then-stages-eq0-clause-ended
returns-then-stages-eq0-clause-ended g t c = over_empty _ c.args.stages.now (omega arith)

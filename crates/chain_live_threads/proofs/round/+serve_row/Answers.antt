use Rattle.std.proofs.Common.{arith}
use Rattle.stage_run.specs.Seeing.{seeing}
use Rattle.chain_live_threads.specs.Rows.{is_over}
use Rattle.chain_live_threads.proofs.Carries.{ready_first, ready_rest, over_empty, over_joined}
use Rattle.chain_live_threads.proofs.round.+serve_row.Goals as goal

pub serve_one-one-requires-clause-ready : goal.serve_one-one-requires-clause-ready
serve_one-one-requires-clause-ready g t c = λ κs within.
    ready_first (seeing g.S.Source.seen g.K.Sink.seen g.P.Plugin.rule g.P.Plugin.stands_for g.P.Plugin.preallocated) c.args.ring.now c.args.stages.now c.split_at_mut-first.result.0.now c.split_at_mut-first.result.1.now c.split_at_mut-first.ensures.value c.requires.ready

pub serve_row-requires-clause-ready : goal.serve_row-requires-clause-ready
serve_row-requires-clause-ready g t c = λ κs within.
    ready_rest (seeing g.S.Source.seen g.K.Sink.seen g.P.Plugin.rule g.P.Plugin.stands_for g.P.Plugin.preallocated) c.args.ring.now c.args.stages.now c.split_at_mut-first.result.0.now c.split_at_mut-first.result.1.now c.split_at_mut-first.ensures.value c.requires.ready

pub returns-then-stages-eq0-clause-ended : goal.returns-then-stages-eq0-clause-ended
returns-then-stages-eq0-clause-ended g t c = over_empty _ c.args.stages.now (omega arith)

pub returns-clause-ended : goal.returns-clause-ended
returns-clause-ended g t c = over_joined (is_over c.serve_one-one.result) (is_over c.serve_row.result) (is_over c.joined.result) _ _ c.joined.ensures c.serve_one-one.ensures.ended c.serve_row.ensures.ended

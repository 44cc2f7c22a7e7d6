use Rattle.stage_run.specs.Seeing.{seeing}
use Rattle.chain_live_threads.specs.Serving.{Keeps}
use Rattle.chain_live_threads.proofs.driving.drive_first.Given as goal

abbrev pub invariant-loop : goal.invariant-loop
invariant-loop g l =
    (goal.iterator-loop g).can_next l.iterator' × (goal.iterator-loop g).is_finite l.iterator'
    × Keeps (seeing g.S.Source.seen g.K.Sink.seen g.P.Plugin.rule g.P.Plugin.stands_for g.P.Plugin.preallocated) l.ring l.fn.stage l.stage

use Rattle.stage_run.specs.Seeing.{seeing}
use Rattle.chain_threads.specs.Driving.{Keeps}
use Rattle.chain_threads.proofs.driving.go_ahead.Given as goal

abbrev pub invariant-loop : goal.invariant-loop
invariant-loop g l =
    Keeps (seeing g.S.Source.seen g.K.Sink.seen g.P.Plugin.rule g.P.Plugin.stands_for g.P.Plugin.preallocated) l.ring l.fn.stage l.stage

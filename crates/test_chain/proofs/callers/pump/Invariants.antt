use Rattle.std.proofs.Common.{◌≡◌, List, ℕ}
use Rattle.ts_outside.specs.Source.{unread}
use Rattle.ts_outside.specs.Sink.{took}
use Rattle.test_chain.proofs.callers.pump.Given as goal

abbrev pub invariant-loop : goal.invariant-loop
invariant-loop g l =
    (bytes : List ℕ)
    × (g.S.Source.seen l.initial.source ≡ unread bytes (g.S.Source.seen l.source))
    × (g.K.Sink.seen l.sink ≡ took (g.K.Sink.seen l.initial.sink) bytes)

use Rattle.std.proofs.Common.{◌≡◌}
use Rattle.window_ring.specs.Seats.{key_of, table_of}
use Rattle.chain_plays.specs.Unvisited.{IsUnvisited}
use Rattle.chain_plays.proofs.abandoning.stop.Given as goal

abbrev pub invariant-loop : goal.invariant-loop
invariant-loop g l =
    (goal.iterator-loop g).can_next l.iterator' × (goal.iterator-loop g).is_finite l.iterator'
    × (l.seat.stage ≡ l.fn.seat.stage) × IsUnvisited (key_of l.ring) (table_of l.ring) l.fn.seat.stage l.seat

use Rattle.std.proofs.Common.{ℕ, List, length}
use Rattle.plug_info_state.specs.EitStands.{Counts, CountsSome}
use Rattle.plug_info_state.proofs.eit_counts.count_waiting.Given as goal

-- some of the sections were counted
abbrev pub invariant-loop-section : goal.invariant-loop-section
invariant-loop-section l = (fed given : List (List ℕ)) → Counts l.fn.demux l.fn.present l.fn.schedule fed given
    → CountsSome l.demux l.present l.schedule fed

abbrev pub decreases-loop-section : goal.decreases-loop-section
decreases-loop-section l = length l.demux.waiting

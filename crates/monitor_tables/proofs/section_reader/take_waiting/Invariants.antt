-- The sections in the list were given, and the others wait.
use Rattle.std.proofs.Common.{ℕ, List, ◌++◌, length}
use Rattle.ts_demux.specs.DemuxState.{StandsFor}
use Rattle.monitor_tables.proofs.section_reader.take_waiting.Given as goal

abbrev pub invariant-loop-section : goal.invariant-loop-section
invariant-loop-section l = (pid : ℕ) (fed given : List (List ℕ)) → StandsFor l.fn.demux pid fed given → StandsFor l.demux pid fed (given ++ l.sections.items)

abbrev pub decreases-loop-section : goal.decreases-loop-section
decreases-loop-section l = length l.demux.waiting

-- The table_ids in the list were given, and the others wait.
use Rattle.std.proofs.Common.{ℕ, List, ◌++◌, length}
use Rattle.monitor_crcs.specs.ReaderState.{StandsFor}
use Rattle.monitor_priorities.proofs.crc_reader.take_waiting.Given as goal

abbrev pub invariant-loop-table : goal.invariant-loop-table
invariant-loop-table l = (pid : ℕ) (fed : List (List ℕ)) (given : List ℕ) → StandsFor l.fn.crcs pid fed given → StandsFor l.crcs pid fed (given ++ l.tables.items)

abbrev pub decreases-loop-table : goal.decreases-loop-table
decreases-loop-table l = length l.crcs.waiting

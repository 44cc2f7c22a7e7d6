use Rattle.std.proofs.Common.{ℕ, List, length}
use Rattle.ts_demux.specs.PidTables.{Holds}
use Rattle.ts_demux.proofs.TablesAfter.{WentOn}
use Rattle.ts_demux.proofs.pid_tables.take_waiting.Given as goal

abbrev pub invariant-loop-section : goal.invariant-loop-section
invariant-loop-section l = (pid : ℕ) (taken given : List (List ℕ)) → Holds l.fn.demux l.fn.assembly pid taken given
    → WentOn l.demux l.assembly pid taken given l.tables.items

abbrev pub decreases-loop-section : goal.decreases-loop-section
decreases-loop-section l = length l.demux.waiting

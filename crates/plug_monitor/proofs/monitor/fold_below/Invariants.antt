use Rattle.std.proofs.Common.{◌≡◌, length}
use Rattle.plugin_notes.proofs.FoldingSteps.{IsFolding}
use Rattle.plug_monitor.specs.Counting.{AreCounted}
use Rattle.plug_monitor.specs.ErrorNotes.{place_of}
use Rattle.plug_monitor.proofs.monitor.fold_below.Given as goal

abbrev pub invariant-loop-note : goal.invariant-loop-note
invariant-loop-note l = record {
  folding : IsFolding place_of AreCounted l.mark l.fn.notes.items l.notes.items l.fn.counts l.counts;
  capacity : l.notes.capacity ≡ l.fn.notes.capacity;
}

abbrev pub decreases-loop-note : goal.decreases-loop-note
decreases-loop-note l = length l.notes.items

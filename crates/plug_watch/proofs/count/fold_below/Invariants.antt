use Rattle.std.proofs.Common.{◌≡◌, length}
use Rattle.plug_watch.specs.CountNotes.{IsTallied, place_of}
use Rattle.plugin_notes.proofs.FoldingSteps.{IsFolding}
use Rattle.plug_watch.proofs.count.fold_below.Given as goal

abbrev pub invariant-loop-note : goal.invariant-loop-note
invariant-loop-note l = record {
  folding : IsFolding place_of IsTallied l.mark l.fn.notes.items l.notes.items l.fn.tally l.tally;
  capacity : l.notes.capacity ≡ l.fn.notes.capacity;
}

abbrev pub decreases-loop-note : goal.decreases-loop-note
decreases-loop-note l = length l.notes.items

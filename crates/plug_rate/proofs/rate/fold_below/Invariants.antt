use Rattle.std.proofs.Common.{◌≡◌, length}
use Rattle.plugin_notes.proofs.FoldingSteps.{IsFolding}
use Rattle.plug_rate.specs.Measures.{place_of}
use Rattle.plug_rate.specs.Summing.{IsSummed}
use Rattle.plug_rate.proofs.rate.fold_below.Given as goal

abbrev pub invariant-loop-note : goal.invariant-loop-note
invariant-loop-note l = record {
  folding : IsFolding place_of IsSummed l.mark l.fn.notes.items l.notes.items l.fn.sums l.sums;
  capacity : l.notes.capacity ≡ l.fn.notes.capacity;
}

abbrev pub decreases-loop-note : goal.decreases-loop-note
decreases-loop-note l = length l.notes.items

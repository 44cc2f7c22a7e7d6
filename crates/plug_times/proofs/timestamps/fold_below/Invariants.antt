use Rattle.std.proofs.Common.{◌≡◌, length}
use Rattle.plugin_notes.proofs.FoldingSteps.{IsFolding}
use Rattle.plug_times.specs.ClockSteps.{IsStepped}
use Rattle.plug_times.specs.StampTexts.{place_of}
use Rattle.plug_times.proofs.timestamps.fold_below.Given as goal

abbrev pub invariant-loop-note : goal.invariant-loop-note
invariant-loop-note l = record {
  folding : IsFolding place_of IsStepped l.mark l.fn.notes.items l.notes.items l.fn.row l.row;
  capacity : l.notes.capacity ≡ l.fn.notes.capacity;
}

abbrev pub decreases-loop-note : goal.decreases-loop-note
decreases-loop-note l = length l.notes.items

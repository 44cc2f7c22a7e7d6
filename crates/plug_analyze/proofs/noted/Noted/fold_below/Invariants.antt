use Rattle.std.proofs.Common.{◌≡◌, length}
use Rattle.plugin_notes.proofs.FoldingSteps.{IsFolding}
use Rattle.plug_analyze.specs.AnalyzeNotes.{place_of}
use Rattle.plug_analyze.specs.TotalsOf.{AreTotals}
use Rattle.plug_analyze.proofs.noted.Noted.fold_below.Given as goal

abbrev pub invariant-loop-note : goal.invariant-loop-note
invariant-loop-note l = record {
  folding : IsFolding place_of AreTotals l.mark l.fn.self.notes.items l.self.notes.items l.fn.self.totals l.self.totals;
  reserved : l.self.notes.capacity ≡ l.fn.self.notes.capacity;
}

abbrev pub decreases-loop-note : goal.decreases-loop-note
decreases-loop-note l = length l.self.notes.items

use Rattle.std.proofs.Common.{◌≡◌, length}
use Rattle.plugin_notes.proofs.FoldingSteps.{IsTaking}
use Rattle.plugin_notes.proofs.note_row.drop_below.Given as goal

abbrev pub invariant-loop-note : goal.invariant-loop-note
invariant-loop-note g l = record {
  taking : IsTaking g.N.PacketNote.place l.mark l.fn.notes.items l.notes.items;
  capacity : l.notes.capacity ≡ l.fn.notes.capacity;
}

abbrev pub decreases-loop-note : goal.decreases-loop-note
decreases-loop-note g l = length l.notes.items

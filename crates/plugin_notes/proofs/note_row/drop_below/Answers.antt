use Rattle.std.proofs.Common.{◌∙◌}
use Rattle.plugin_notes.proofs.FoldingSteps.{one_taken}
use Rattle.plugin_notes.proofs.note_row.drop_below.Goals as goal

pub loop-note-preserved : goal.loop-note-preserved
loop-note-preserved g c = record {
  taking = one_taken g.N.PacketNote.place c.args.mark _ _ c.loop-note.invariant.taking c.in-Some._note c.pop_below.new.notes.items c.in-Some.ensures.taken.0 c.in-Some.ensures.taken.1;
  capacity = c.in-Some.ensures.capacity ∙ c.loop-note.invariant.capacity;
}

use Rattle.std.proofs.Common.{arith}
use Rattle.plugin_notes.proofs.Noting.{lines_more}
use Rattle.plugin_notes.proofs.note_row.lines_below.Goals as goal

pub loop-note-preserved : goal.loop-note-preserved
loop-note-preserved g c = record {
  can = tt;
  ends = tt;
  made = lines_more g.N.PacketNote.place g.N.LineNote.line_of c.args.mark c.loop-note.lines.items c.push.new.self.items _ c.loop-note.note-iterator c.next.new.self c.in-Some.note.now c.in_ok-line.field-0
      c.in-Some.ensures.steps (omega (arith, c.at.ensures, c.if-at-mark.false)) c.in_ok-line.ensures c.in_ok-push.ensures.items c.loop-note.invariant.made;
}

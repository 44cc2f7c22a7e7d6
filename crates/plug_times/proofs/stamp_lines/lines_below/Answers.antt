use Rattle.std.proofs.Common.{arith}
use Rattle.plug_times.specs.StampTexts.{lines_of_stamp, place_of}
use Rattle.plugin_notes.proofs.Flat.{flat_more}
use Rattle.plug_times.proofs.stamp_lines.lines_below.Goals as goal

pub loop-note-preserved : goal.loop-note-preserved
loop-note-preserved c = record {
  can = tt;
  ends = tt;
  made = flat_more place_of (lines_of_stamp c.args.shown) c.args.mark c.loop-note.lines.items c.push_stamp.new.lines.items _ c.loop-note.note-iterator c.next.new.self c.in-Some.note.now
      c.in-Some.ensures.steps (omega (arith, c.at.ensures, c.if-at-mark.false)) c.in_ok-push_stamp.ensures c.loop-note.invariant.made;
}

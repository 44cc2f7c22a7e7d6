use Rattle.std.proofs.Common.{arith}
use Rattle.plug_rate.specs.Measures.{place_of}
use Rattle.plug_rate.specs.RateTexts.{lines_of_judged}
use Rattle.plugin_notes.proofs.Flat.{flat_more}
use Rattle.plug_rate.proofs.rate_lines.lines_below.Goals as goal

pub loop-note-preserved : goal.loop-note-preserved
loop-note-preserved c = record {
  can = tt;
  ends = tt;
  made = flat_more place_of lines_of_judged c.args.mark c.loop-note.lines.items c.push_judged.new.lines.items _ c.loop-note.note-iterator c.next.new.self c.in-Some.note.now
      c.in-Some.ensures.steps (omega (arith, c.at.ensures, c.if-at-mark.false)) c.in_ok-push_judged.ensures c.loop-note.invariant.made;
}

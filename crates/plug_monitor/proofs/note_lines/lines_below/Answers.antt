use Rattle.std.proofs.Common.{◌++◌, ◌∙◌, List, ap, arith, map}
use Rattle.plugin_trait.specs.PlacedLines.{placed_at}
use Rattle.monitor_lines.specs.ErrorTexts.{text_of_error}
use Rattle.monitor_lines.specs.declared.monitor_error.MonitorError.{MonitorError}
use Rattle.plug_monitor.specs.ErrorNotes.{lines_of_note, place_of}
use Rattle.plugin_notes.proofs.Flat.{flat_more}
use Rattle.plug_monitor.proofs.note_lines.lines_below.Goals as goal

pub loop-note-preserved : goal.loop-note-preserved
loop-note-preserved c = record {
  can = tt;
  ends = tt;
  made = flat_more place_of lines_of_note c.args.mark c.loop-note.lines.items c.push_errors.new.lines.items _ c.loop-note.note-iterator c.next.new.self c.in-Some.note.now
      c.in-Some.ensures.steps (omega (arith, c.at.ensures, c.if-at-mark.false)) (c.in_ok-push_errors.ensures ∙ ap (λ (es : List MonitorError). c.loop-note.lines.items ++ placed_at c.in-Some.note.now.at (map text_of_error es)) c.as_slice.ensures)
      c.loop-note.invariant.made;
}

use Rattle.std.proofs.Common.{◌≡◌, ◌++◌, map, nat_lt}
use Rattle.std.specs.List.{take_while}
use Rattle.plugin_notes.proofs.note_row.lines_below.Given as goal

abbrev pub invariant-loop-note : goal.invariant-loop-note
invariant-loop-note g l = record {
  can : (goal.iterator-loop-note g).can_next l.note-iterator;
  ends : (goal.iterator-loop-note g).is_finite l.note-iterator;
  made : l.lines.items ++ map g.N.LineNote.line_of (take_while (λ n. nat_lt (g.N.PacketNote.place n) l.mark) l.note-iterator)
      ≡ map g.N.LineNote.line_of (take_while (λ n. nat_lt (g.N.PacketNote.place n) l.mark) l.notes.items);
}

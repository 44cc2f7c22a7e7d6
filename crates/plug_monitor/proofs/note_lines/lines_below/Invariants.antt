use Rattle.std.proofs.Common.{◌≡◌, ◌++◌, nat_lt}
use Rattle.std.specs.List.{flat_map, take_while}
use Rattle.plug_monitor.specs.ErrorNotes.{lines_of_note, place_of}
use Rattle.plug_monitor.proofs.note_lines.lines_below.Given as goal

abbrev pub invariant-loop-note : goal.invariant-loop-note
invariant-loop-note l = record {
  can : goal.iterator-loop-note.can_next l.note-iterator;
  ends : goal.iterator-loop-note.is_finite l.note-iterator;
  made : l.lines.items ++ flat_map lines_of_note (take_while (λ n. nat_lt (place_of n) l.mark) l.note-iterator)
      ≡ flat_map lines_of_note (take_while (λ n. nat_lt (place_of n) l.mark) l.notes.items);
}

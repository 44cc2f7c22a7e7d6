-- What a value of `count` keeps. This project's own rule.
use Rattle.std.specs.Prelude.{◌≤◌, ℕ, List, length}
use Rattle.ts_packet.specs.declared.cell.Cell.{Cell}
use Rattle.chain_model.specs.declared.positions.TheConstants.{POSITION_LIMIT}
use Rattle.plug_watch.specs.declared.count_conf.CountConf.{CountConf}
use Rattle.plug_watch.specs.CountNotes.{IsTallied, note_on}
use Rattle.plugin_notes.specs.NotesKept.{KeepsNotes, notes_below}
use Rattle.plug_watch.specs.declared.note.Note.{Note}
use Rattle.plugin_notes.specs.declared.tally.Tally.{Tally}

-- the packets before the mark are in the counts, and those from the mark on are in the notes
pub record Counts (conf : CountConf) (notes : List Note) (tally : Tally)
    (history : List Cell) (mark : ℕ) : Type 0 where
  pub keeps : KeepsNotes (note_on conf) notes history mark
  pub tallied : IsTallied tally (notes_below (note_on conf) mark history)
  pub short : length history ≤ POSITION_LIMIT

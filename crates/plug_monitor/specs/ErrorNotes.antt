-- The errors of a packet as they are noted, and their lines. This project's own rule.
use Rattle.std.specs.Prelude.{ℕ, List, [], ◌∷◌, length, map}
use Rattle.std.specs.List.{flat_map}
use Rattle.ts_packet.specs.declared.cell.Cell.{Cell}
use Rattle.plugin_trait.specs.declared.line.Line.{Line}
use Rattle.plugin_trait.specs.PlacedLines.{placed_at}
use Rattle.plugin_notes.specs.Notes.{notes_after}
use Rattle.monitor_lines.specs.ErrorTexts.{text_of_error}
use Rattle.monitor_lines.specs.declared.monitor_error.MonitorError.{MonitorError}
use Rattle.plug_monitor.specs.MonitorErrors.{errors_on}
use Rattle.plug_monitor.specs.declared.error_note.ErrorNote.{ErrorNote}
use Rattle.plug_monitor.specs.declared.monitor_conf.MonitorConf.{MonitorConf}

-- the note of errors that are known at a position, where there are some
abbrev pub note_of : ℕ → List MonitorError → List ErrorNote
note_of at [] = []
note_of at (error ∷ errors) = record { at = at; errors = error ∷ errors } ∷ []

-- that of a packet after the cells met
abbrev pub note_on : MonitorConf → List Cell → List ℕ → List ErrorNote
note_on conf history packet = note_of (length history) (errors_on conf history packet)

-- all notes
abbrev pub notes_in : MonitorConf → List Cell → List ErrorNote
notes_in conf cells = notes_after (note_on conf) [] cells

-- the position of a note, and its errors
abbrev pub place_of : ErrorNote → ℕ
place_of note = note.at

abbrev pub errors_of : ErrorNote → List MonitorError
errors_of note = note.errors

-- the errors of notes
abbrev pub errors_of_notes : List ErrorNote → List MonitorError
errors_of_notes notes = flat_map errors_of notes

-- the errors of all cells met
abbrev pub errors_in : MonitorConf → List Cell → List MonitorError
errors_in conf cells = notes_after (errors_on conf) [] cells

-- the lines of a note
abbrev pub lines_of_note : ErrorNote → List Line
lines_of_note note = placed_at note.at (map text_of_error note.errors)

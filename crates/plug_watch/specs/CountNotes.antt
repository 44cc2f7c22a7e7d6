-- Notes on counted packets, and their lines. This project's own rule.
use Rattle.std.specs.Prelude.{ℕ, List, [], ◌∷◌, length, map, if◌then◌else◌}
use Rattle.ts_packet.specs.declared.cell.Cell.{Cell}
use Rattle.ts_packet.specs.Header.{pid_of}
use Rattle.plugin_trait.specs.declared.line.Line.{Line}
use Rattle.plug_watch.specs.CountRule.{is_counted, packet_text}
use Rattle.plugin_notes.specs.Tallies.{IsCounted}
use Rattle.plug_watch.specs.declared.count_conf.CountConf.{CountConf}
use Rattle.plug_watch.specs.declared.note.Note.{Note}
use Rattle.plugin_notes.specs.declared.tally.Tally.{Tally}

-- a counted packet is noted with its position and its PID
abbrev pub note_on : CountConf → List Cell → List ℕ → List Note
note_on conf history packet =
    if is_counted conf packet then record { at = length history; pid = pid_of packet } ∷ [] else []

-- the position of a note
abbrev pub place_of : Note → ℕ
place_of note = note.at

-- the PID of a note
abbrev pub pid_in : Note → ℕ
pid_in note = note.pid

-- the text of a note's line
abbrev pub text_on : Note → List ℕ
text_on note = packet_text note.at note.pid

-- the line of a note
abbrev pub line_of_note : Note → Line
line_of_note note = record { at = note.at; text = text_on note }

-- the counts are those of these notes
abbrev pub IsTallied : Tally → List Note → Type 0
IsTallied tally notes = IsCounted tally (map pid_in notes)

-- What `analyze` notes of a packet. This project's own rule.
use Rattle.std.specs.Prelude.{ℕ, List, [], ◌∷◌, length, Bool, true, false}
use Rattle.ts_packet.specs.declared.cell.Cell.{Cell}
use Rattle.ts_packet.specs.Header.{pid_of, has_payload_of}
use Rattle.plugin_notes.specs.declared.continuity_error.ContinuityError.{ContinuityError}
use Rattle.plugin_notes.specs.ContinuityErrors.{error_on}
use Rattle.plug_analyze.specs.AnalyzeRule.{all_pids, has_pcr, is_scrambled}
use Rattle.plug_analyze.specs.declared.note.Note.{Note}

-- the list of faults is not empty
abbrev pub is_any : List ContinuityError → Bool
is_any [] = false
is_any (error ∷ errors) = true

-- the counter of a packet after a history is a fault
abbrev pub is_fault_at : List Cell → List ℕ → Bool
is_fault_at history packet = is_any (error_on all_pids history packet)

-- the note on a packet after a history
abbrev pub noted : List Cell → List ℕ → Note
noted history packet = record {
  at = length history;
  pid = pid_of packet;
  has_payload = has_payload_of packet;
  is_scrambled = is_scrambled packet;
  is_fault = is_fault_at history packet;
  has_pcr = has_pcr packet;
}

-- the position of a note, and its PID
abbrev pub place_of : Note → ℕ
place_of note = note.at

abbrev pub pid_in : Note → ℕ
pid_in note = note.pid

-- each packet has one note
abbrev pub note_on : List Cell → List ℕ → List Note
note_on history packet = noted history packet ∷ []

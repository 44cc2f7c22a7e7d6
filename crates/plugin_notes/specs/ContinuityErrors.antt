-- Continuity errors as `continuity` notes them, and their lines in the report. This project's own rule.
use Rattle.std.specs.Prelude.{ℕ, List, [], ◌∷◌, length, Option, None, Some, if◌then◌else◌}
use Rattle.ts_packet.specs.declared.cell.Cell.{Cell}
use Rattle.ts_packet.specs.Header.{pid_of, counter_of}
use Rattle.plugin_trait.specs.declared.line.Line.{Line}
use Rattle.plugin_notes.specs.Notes.{notes_after}
use Rattle.plugin_notes.specs.Counters.{is_watched, is_fault, wanted_behind, last_of, fault_text}
use Rattle.plugin_notes.specs.declared.continuity_conf.ContinuityConf.{ContinuityConf}
use Rattle.plugin_notes.specs.declared.continuity_error.ContinuityError.{ContinuityError}

-- the error of a packet at a position, given the packet before it on its PID: at most one
abbrev pub error_after : ℕ → Option (List ℕ) → List ℕ → List ContinuityError
error_after at None packet = []
error_after at (Some before) packet =
    if is_fault before packet
    then record { at = at; pid = pid_of packet; counter = counter_of packet; wanted = wanted_behind before packet } ∷ []
    else []

-- the error of a packet after a history of cells, if its PID is checked
abbrev pub error_on : ContinuityConf → List Cell → List ℕ → List ContinuityError
error_on conf history packet =
    if is_watched conf (pid_of packet)
    then error_after (length history) (last_of (pid_of packet) history) packet
    else []

-- the errors in a list of cells
abbrev pub errors_in : ContinuityConf → List Cell → List ContinuityError
errors_in conf cells = notes_after (error_on conf) [] cells

-- the position of an error
abbrev pub place_of_error : ContinuityError → ℕ
place_of_error error = error.at

-- the text of an error
abbrev pub text_of_error : ContinuityError → List ℕ
text_of_error error = fault_text error.at error.pid error.counter error.wanted

-- the line of an error
abbrev pub line_of_error : ContinuityError → Line
line_of_error error = record { at = error.at; text = text_of_error error }

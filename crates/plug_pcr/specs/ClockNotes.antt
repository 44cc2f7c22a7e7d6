-- Notes of `pcrverify` on packets with a PCR. This project's own rule.
use Rattle.std.specs.Prelude.{ℕ, List, [], ◌∷◌, length, if◌then◌else◌}
use Rattle.ts_packet.specs.declared.cell.Cell.{Cell}
use Rattle.plug_pcr.specs.ClockFaults.{is_clocked}
use Rattle.plug_pcr.specs.declared.clock_note.ClockNote.{ClockNote}
use Rattle.plug_pcr.specs.declared.pcrverify_conf.PcrverifyConf.{PcrverifyConf}

-- a packet with a PCR on a checked PID is noted with its position
abbrev pub note_on : PcrverifyConf → List Cell → List ℕ → List ClockNote
note_on conf history packet = if is_clocked conf packet then record { at = length history } ∷ [] else []

-- the position of a note
abbrev pub place_of_note : ClockNote → ℕ
place_of_note note = note.at

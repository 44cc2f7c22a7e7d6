-- What a value of `pcrverify` keeps. This project's own rule.
use Rattle.std.specs.Prelude.{◌≡◌, ◌≤◌, ℕ, List, length, take}
use Rattle.ts_packet.specs.declared.cell.Cell.{Cell}
use Rattle.chain_model.specs.declared.positions.TheConstants.{POSITION_LIMIT}
use Rattle.plugin_notes.specs.NotesKept.{KeepsNotes}
use Rattle.plug_pcr.specs.ClockFaults.{fault_on, faults_in}
use Rattle.plug_pcr.specs.ClockNotes.{note_on}
use Rattle.plug_pcr.specs.LastClocks.{Remembers}
use Rattle.plug_pcr.specs.PcrverifyRule.{clocked}
use Rattle.plug_pcr.specs.declared.clock_fault.ClockFault.{ClockFault}
use Rattle.plug_pcr.specs.declared.clock_note.ClockNote.{ClockNote}
use Rattle.plug_pcr.specs.declared.last_clocks.LastClocks.{LastClocks}
use Rattle.plug_pcr.specs.declared.pcrverify_conf.PcrverifyConf.{PcrverifyConf}

-- the last PCRs are kept; the PCRs from the mark on and the faults among them are in the notes, and of those before it
-- the numbers are kept
pub record Verifies (conf : PcrverifyConf) (last : LastClocks) (met : List ClockNote) (faults : List ClockFault)
    (clock_count fault_count : ℕ) (history : List Cell) (mark : ℕ) : Type 0 where
  pub some_rate : 1 ≤ conf.bitrate
  pub remembers : Remembers conf last history
  pub keeps_met : KeepsNotes (note_on conf) met history mark
  pub keeps_faults : KeepsNotes (fault_on conf) faults history mark
  pub clocks_counted : clock_count ≡ length (clocked conf (take mark history))
  pub faults_counted : fault_count ≡ length (faults_in conf (take mark history))
  pub short : length history ≤ POSITION_LIMIT

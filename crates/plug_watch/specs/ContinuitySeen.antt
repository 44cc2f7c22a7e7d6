-- What `continuity` keeps of the packets on a PID. This project's own rule.
use Rattle.std.specs.Prelude.{◌≡◌, ◌≤◌, ℕ, List, length, take}
use Rattle.ts_packet.specs.declared.cell.Cell.{Cell}
use Rattle.chain_model.specs.declared.positions.TheConstants.{POSITION_LIMIT}
use Rattle.plugin_notes.specs.declared.continuity_conf.ContinuityConf.{ContinuityConf}
use Rattle.plugin_notes.specs.ContinuityErrors.{error_on}
use Rattle.plugin_notes.specs.NotesKept.{KeepsNotes}
use Rattle.plugin_notes.specs.declared.continuity_error.ContinuityError.{ContinuityError}
use Rattle.plugin_notes.specs.declared.last_packets.LastPackets.{LastPackets}
use Rattle.plug_watch.specs.ContinuityRule.{faults_in}
pub use Rattle.plugin_notes.specs.LastSeen.{seen_in, repeats, wanted_after, is_wrong, fault_after, right_after, seen_with, HasCounters, IsTable, Remembers}

-- the last packets are kept; the faults from the mark on are in the notes, and of those before it the number is kept
pub record Watches (conf : ContinuityConf) (last : LastPackets) (notes : List ContinuityError)
    (count : ℕ) (history : List Cell) (mark : ℕ) : Type 0 where
  pub remembers : Remembers conf last history
  pub keeps : KeepsNotes (error_on conf) notes history mark
  pub counted : count ≡ length (faults_in conf (take mark history))
  pub short : length history ≤ POSITION_LIMIT

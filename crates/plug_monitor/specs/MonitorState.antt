-- What a value of `monitor` keeps, and the cells that it stands for. This project's own rule.
use Rattle.std.specs.Prelude.{◌≡◌, ◌≤◌, ℕ, Bool, false, List, length, Option, None}
use Rattle.ts_packet.specs.declared.cell.Cell.{Cell}
use Rattle.chain_model.specs.declared.positions.TheConstants.{POSITION_LIMIT}
use Rattle.plugin_notes.specs.NotesKept.{KeepsNotes, notes_below}
use Rattle.plug_monitor.specs.Counting.{AreCounted}
use Rattle.plug_monitor.specs.ErrorNotes.{note_on}
use Rattle.plug_monitor.specs.WatchStands.{IsWatching}
use Rattle.plug_monitor.specs.declared.counts.Counts.{Counts}
use Rattle.plug_monitor.specs.declared.error_note.ErrorNote.{ErrorNote}
use Rattle.plug_monitor.specs.declared.monitor.Monitor.{Monitor}
use Rattle.plug_monitor.specs.declared.monitor_conf.MonitorConf.{MonitorConf}
use Rattle.plug_monitor.specs.declared.watch.Watch.{Watch}

-- errors before the mark are counted, those from the mark on are noted, and unless memory ran out, what is kept of the packets
-- is that of the cells met
pub record Monitors (conf : MonitorConf) (watch : Watch) (counts : Counts) (notes : List ErrorNote) (failed : Bool) (history : List Cell) (mark : ℕ) : Type 0 where
  pub keeps : KeepsNotes (note_on conf) notes history mark
  pub counted : AreCounted counts (notes_below (note_on conf) mark history)
  pub watching : failed ≡ false → IsWatching conf watch history
  pub short : length history ≤ POSITION_LIMIT

-- the parts stand for the cells that were processed, and for the greatest mark
abbrev pub StandsFor : Monitor → List Cell → ℕ → Type 0
StandsFor s history mark = Monitors s.conf s.watch s.counts s.notes.items s.failed history mark

-- whether a step ran out of memory
abbrev pub has_failed : Monitor → Bool
has_failed s = s.failed

-- it names no number of positions at which it never runs out of memory, since tables and errors need some
abbrev pub preallocated_of : Monitor → Option ℕ
preallocated_of s = None

-- on how many packets it has room for notes
abbrev pub room_of : Monitor → ℕ
room_of s = s.notes.capacity

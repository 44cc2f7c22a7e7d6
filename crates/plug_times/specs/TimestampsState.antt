-- What a value of `timestamps` keeps, and the cells that it stands for. This project's own rule.
use Rattle.std.specs.Prelude.{◌≤◌, ℕ, List, length, Option, None}
use Rattle.ts_packet.specs.declared.cell.Cell.{Cell}
use Rattle.chain_model.specs.declared.positions.TheConstants.{POSITION_LIMIT}
use Rattle.plugin_notes.specs.NotesKept.{KeepsNotes, notes_below}
use Rattle.plug_times.specs.ClockSteps.{IsStepped}
use Rattle.plug_times.specs.Stamps.{stamps_on}
use Rattle.plug_times.specs.declared.stamp.Stamp.{Stamp}
use Rattle.plug_times.specs.declared.step_row.StepRow.{StepRow}
use Rattle.plug_times.specs.declared.timestamps.Timestamps.{Timestamps}
use Rattle.plug_times.specs.declared.timestamps_conf.TimestampsConf.{TimestampsConf}

-- what packets before the mark tell is in the steps, and what those from the mark on tell is in the notes
pub record Follows (conf : TimestampsConf) (notes : List Stamp) (row : StepRow) (history : List Cell) (mark : ℕ) : Type 0 where
  pub keeps : KeepsNotes (stamps_on conf) notes history mark
  pub stepped : IsStepped row (notes_below (stamps_on conf) mark history)
  pub short : length history ≤ POSITION_LIMIT

-- the settings of the plugin
abbrev pub conf_of : Timestamps → TimestampsConf
conf_of s = record { pid = s.pids; shown = s.shown }

-- its parts stand for the cells that were processed, and for the greatest mark
abbrev pub StandsFor : Timestamps → List Cell → ℕ → Type 0
StandsFor s history mark = Follows (conf_of s) s.notes.items s.row history mark

-- for how many notes it has room
abbrev pub room_of : Timestamps → ℕ
room_of s = s.notes.capacity

-- it has no room for one more note
abbrev pub IsFull : Timestamps → Type 0
IsFull s = room_of s ≤ length s.notes.items

-- it names no number of positions at which it never runs out of memory, since its lines need memory at a mark
abbrev pub preallocated_of : Timestamps → Option ℕ
preallocated_of _ = None

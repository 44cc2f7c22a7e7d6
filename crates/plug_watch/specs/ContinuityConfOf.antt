-- The settings of a value of `continuity`, and the cells that it stands for. This project's own rule.
use Rattle.std.specs.Prelude.{◌≤◌, ℕ, List, length, Option, None}
use Rattle.ts_packet.specs.declared.cell.Cell.{Cell}
use Rattle.plug_watch.specs.ContinuitySeen.{Watches}
use Rattle.plugin_notes.specs.declared.continuity_conf.ContinuityConf.{ContinuityConf}
use Rattle.plug_watch.specs.declared.continuity.Continuity.{Continuity}

-- the settings of the plugin
abbrev pub conf_of : Continuity → ContinuityConf
conf_of s = record { pid = s.pids; fix = s.fix }

-- its parts stand for the cells that were processed, and for the greatest mark
abbrev pub StandsFor : Continuity → List Cell → ℕ → Type 0
StandsFor s history mark = Watches (conf_of s) s.last s.notes.items s.fault_count history mark

-- it names no number of positions at which it never runs out of memory, since its lines need memory at a mark
abbrev pub preallocated_of : Continuity → Option ℕ
preallocated_of s = None

-- for how many notes it has room
abbrev pub room_of : Continuity → ℕ
room_of s = s.notes.capacity

-- it has no room for one more note
abbrev pub IsFull : Continuity → Type 0
IsFull s = room_of s ≤ length s.notes.items

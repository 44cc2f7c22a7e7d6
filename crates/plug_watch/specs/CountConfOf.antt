-- The settings of a value of `count`, and the cells that it stands for. This project's own rule.
use Rattle.std.specs.Prelude.{◌≤◌, ℕ, List, length, Option, None, Some, if◌then◌else◌}
use Rattle.ts_packet.specs.declared.cell.Cell.{Cell}
use Rattle.plug_watch.specs.CountState.{Counts}
use Rattle.plug_watch.specs.declared.count_conf.CountConf.{CountConf}
use Rattle.plug_watch.specs.declared.count.Count.{Count}

-- the settings of the plugin
abbrev pub conf_of : Count → CountConf
conf_of s = record { pid = s.pids; negate = s.negate; all = s.all; total = s.total }

-- its parts stand for the cells that were processed, and for the greatest mark
abbrev pub StandsFor : Count → List Cell → ℕ → Type 0
StandsFor s history mark = Counts (conf_of s) s.notes.items s.tally history mark

-- for how many notes it has room
abbrev pub room_of : Count → ℕ
room_of s = s.notes.capacity

-- it has no room for one more note
abbrev pub IsFull : Count → Type 0
IsFull s = room_of s ≤ length s.notes.items

-- with `all` it names no number of positions at which it never runs out of memory, since its lines need memory at a mark
abbrev pub preallocated_of : Count → Option ℕ
preallocated_of s = if s.all then None else Some (room_of s)

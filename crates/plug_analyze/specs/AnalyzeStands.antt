-- The cells that a value of `analyze` stands for. This project's own rule.
use Rattle.std.specs.Prelude.{◌≡◌, ◌≤◌, ◌<◌, Bool, false, ℕ, List, length, Option, None}
use Rattle.ts_packet.specs.declared.cell.Cell.{Cell}
use Rattle.ts_packet.specs.Cells.{live_packets}
use Rattle.plug_psi.specs.InForce.{may_have_tables}
use Rattle.plug_analyze.specs.AnalyzeState.{Analyzes, AnalyzesSome}
use Rattle.plug_analyze.specs.declared.analyze.Analyze.{Analyze}

-- whether a step ran out of memory
abbrev pub has_failed : Analyze → Bool
has_failed s = s.failed

-- its parts stand for the cells and the greatest mark
abbrev pub StandsFor : Analyze → List Cell → ℕ → Type 0
StandsFor s history mark = Analyzes s.last s.noted s.services history mark

-- they stand for some list of exactly so many cells
abbrev pub StandsForSome : Analyze → ℕ → Type 0
StandsForSome s at = AnalyzesSome s.last s.noted s.services at

-- what the plugin stands for: unless it has failed, these cells were processed, and this is the greatest mark
abbrev pub MeetsHistory : Analyze → List Cell → ℕ → Type 0
MeetsHistory s history mark = (has_failed s ≡ false → StandsFor s history mark) × (mark ≤ length history)

-- it names no number of positions at which it never runs out of memory, since its tables grow
abbrev pub preallocated_of : Analyze → Option ℕ
preallocated_of s = None

-- whether there is room for one more note
abbrev pub HasNoteRoom : Analyze → Type 0
HasNoteRoom s = length s.noted.notes.items < s.noted.notes.capacity

-- whether tables in force may come with a packet on a PID, after these cells
abbrev pub may_come : ℕ → List Cell → Bool
may_come pid history = may_have_tables pid (live_packets history)

-- for how many notes of packets it has room, and for how many changes of the services in force
abbrev pub room_for_notes : Analyze → ℕ
room_for_notes s = s.noted.notes.capacity

abbrev pub room_for_changes : Analyze → ℕ
room_for_changes s = s.services.changes.capacity

-- What is kept of each PID to which no table refers. This project's own rule.
use Rattle.std.specs.Prelude.{◌≡◌, ◌<◌, ◌≤◌, ℕ, List, filter, Bool, Option}
use Rattle.std.specs.List.{slice_index_or}
use Rattle.ts_packet.specs.declared.cell.Cell.{Cell}
use Rattle.ts_packet.specs.declared.numbers.TheConstants.{PID_COUNT}
use Rattle.plugin_notes.specs.PidPackets.{numbers_below}
use Rattle.plug_psi.specs.Referred.{refers}
use Rattle.monitor_keys.specs.declared.span.Span.{Span}
use Rattle.monitor_orphans.specs.Orphans.{is_on, is_told_with, orphan_after, orphan_with}
use Rattle.monitor_orphans.specs.declared.orphan.Orphan.{Orphan}
use Rattle.monitor_orphans.specs.declared.orphan.Orphan.TheVariants.{Unmet}
use Rattle.monitor_orphans.specs.declared.orphans.Orphans.{Orphans}
use Rattle.monitor_orphans.specs.declared.reach.Reach.{Reach}

-- nothing is kept of the PIDs outside of a reach
pub record IsWithin (reach : Reach) (pids : List Orphan) : Type 0 where
  pub below : (pid : ℕ) → pid < reach.from → slice_index_or pids pid Unmet ≡ Unmet
  pub above : (pid : ℕ) → reach.to ≤ pid → slice_index_or pids pid Unmet ≡ Unmet

-- what is kept of each PID is what was met of it, and the reach has all PIDs of which something is kept
pub record Follows (pcr_pid : Option ℕ) (kept : Orphans) (history : List Cell) : Type 0 where
  pub each : (pid : ℕ) → pid < PID_COUNT → slice_index_or kept.pids pid Unmet ≡ orphan_after pcr_pid pid history
  pub within : IsWithin kept.reach kept.pids

-- what is kept of a PID after a packet, where it was this row and the tables in force are those of all packets fed
abbrev pub met_in : Span → List ℕ → List (List ℕ) → List Orphan → ℕ → Orphan
met_in span packet fed pids pid = orphan_with span (is_on pid packet) (refers fed pid) (slice_index_or pids pid Unmet)

-- a PID is told then
abbrev pub told_in : Span → List ℕ → List (List ℕ) → List Orphan → ℕ → Bool
told_in span packet fed pids pid = is_told_with span (is_on pid packet) (refers fed pid) (slice_index_or pids pid Unmet)

-- the PIDs below a bound that are told
abbrev pub told_below : Span → List ℕ → List (List ℕ) → List Orphan → ℕ → List ℕ
told_below span packet fed pids bound = filter (told_in span packet fed pids) (numbers_below bound)

-- the PIDs below a bound have been turned, and no others
pub record LookedBelow (span : Span) (packet : List ℕ) (fed : List (List ℕ)) (old new : List Orphan) (bound : ℕ) : Type 0 where
  pub done : (pid : ℕ) → pid < bound → slice_index_or new pid Unmet ≡ met_in span packet fed old pid
  pub left : (pid : ℕ) → bound ≤ pid → slice_index_or new pid Unmet ≡ slice_index_or old pid Unmet

-- Where the PIDs are of which something is kept: no others are gone through with a PCR. This project's own rule.
use Rattle.std.specs.Prelude.{◌≡◌, ◌<◌, ◌≤◌, ℕ, List, false}
use Rattle.std.specs.List.{slice_index_or}
use Rattle.monitor_keys.specs.declared.span.Span.{Span}
use Rattle.monitor_orphans.specs.OrphanRow.{met_in, told_in}
use Rattle.monitor_orphans.specs.declared.orphan.Orphan.{Orphan}
use Rattle.monitor_orphans.specs.declared.orphan.Orphan.TheVariants.{Unmet}
use Rattle.monitor_orphans.specs.declared.reach.Reach.{Reach}

-- a reach has what another one has, and a PID
pub record Widens (old : Reach) (pid : ℕ) (new : Reach) : Type 0 where
  pub from : new.from ≤ old.from
  pub to : old.to ≤ new.to
  pub first : new.from ≤ pid
  pub last : pid < new.to

-- a reach has what another one has, and a PID if anything is kept of it
pub record Reaches (old : Reach) (pid : ℕ) (kept : Orphan) (new : Reach) : Type 0 where
  pub from : new.from ≤ old.from
  pub to : old.to ≤ new.to
  pub below : pid < new.from → kept ≡ Unmet
  pub above : new.to ≤ pid → kept ≡ Unmet

-- nothing is kept of a PID before and after a packet, and it is not told
pub record IsIdle (span : Span) (packet : List ℕ) (fed : List (List ℕ)) (pids : List Orphan) (pid : ℕ) : Type 0 where
  pub unmet : slice_index_or pids pid Unmet ≡ Unmet
  pub met : met_in span packet fed pids pid ≡ Unmet
  pub told : told_in span packet fed pids pid ≡ false

-- so it is of each PID outside of a reach
pub record IsIdleOutside (span : Span) (packet : List ℕ) (fed : List (List ℕ)) (pids : List Orphan) (reach : Reach) : Type 0 where
  pub below : (pid : ℕ) → pid < reach.from → IsIdle span packet fed pids pid
  pub above : (pid : ℕ) → reach.to ≤ pid → IsIdle span packet fed pids pid

-- nothing is kept of the PIDs below a bound that are outside of a reach
pub record IsWithinBelow (reach : Reach) (pids : List Orphan) (bound : ℕ) : Type 0 where
  pub below : (pid : ℕ) → pid < bound → pid < reach.from → slice_index_or pids pid Unmet ≡ Unmet
  pub above : (pid : ℕ) → pid < bound → reach.to ≤ pid → slice_index_or pids pid Unmet ≡ Unmet

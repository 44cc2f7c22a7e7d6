-- What is kept of the last packet on each PID. This project's own rule.
use Rattle.std.specs.Prelude.{◌≡◌, ◌≢◌, ◌<◌, ℕ, List, None}
use Rattle.std.specs.List.{slice_index_or}
use Rattle.ts_packet.specs.declared.cell.Cell.{Cell}
use Rattle.ts_packet.specs.declared.numbers.TheConstants.{NULL_PID, PID_COUNT}
use Rattle.monitor_counters.specs.CounterErrors.{last_met}
use Rattle.monitor_counters.specs.declared.last_mets.LastMets.{LastMets}

-- what is kept of each PID but that of null packets is its last packet
pub record Remembers (kept : LastMets) (history : List Cell) : Type 0 where
  pub each : (pid : ℕ) → pid < PID_COUNT → pid ≢ NULL_PID → slice_index_or kept.packets pid None ≡ last_met pid history

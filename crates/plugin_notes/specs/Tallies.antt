-- Counting by PID. This project's own rule.
use Rattle.std.specs.Prelude.{◌≡◌, ◌<◌, ◌^◌, ◌==◌, ℕ, List, length, count_by, slice_index}
use Rattle.ts_packet.specs.declared.numbers.TheConstants.{PID_COUNT}
use Rattle.plugin_notes.specs.declared.tally.Tally.{Tally}

-- the counts say how often each PID is in the list, and the total is the length of the list
pub record IsTally (counts : List ℕ) (total : ℕ) (pids : List ℕ) : Type 0 where
  pub whole : length counts ≡ PID_COUNT
  pub each : (pid : ℕ) → pid < PID_COUNT → slice_index counts pid ≡ count_by (λ q. q == pid) pids
  pub all : total ≡ length pids

-- the counts of a tally are those of a list of PIDs
abbrev pub IsCounted : Tally → List ℕ → Type 0
IsCounted tally pids = IsTally tally.counts tally.total pids

-- the counts are those of some list, and one more packet can be counted
pub record HasRoomFor (counts : List ℕ) (total : ℕ) : Type 0 where
  pub pids : List ℕ
  pub tally : IsTally counts total pids
  pub few : length pids < 2 ^ 63

-- one more packet can be counted in a tally
abbrev pub HasRoomIn : Tally → Type 0
HasRoomIn tally = HasRoomFor tally.counts tally.total

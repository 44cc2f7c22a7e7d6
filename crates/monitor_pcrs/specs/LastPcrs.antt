-- What is kept of the last PCR on each PID. This project's own rule.
use Rattle.std.specs.Prelude.{◌≡◌, ◌<◌, ◌≤◌, ℕ, List, None, Option, IfSome}
use Rattle.std.specs.List.{slice_index_or}
use Rattle.ts_packet.specs.declared.cell.Cell.{Cell}
use Rattle.ts_packet.specs.declared.numbers.TheConstants.{PID_COUNT}
use Rattle.monitor_pcrs.specs.PcrErrors.{last_clock_on}
use Rattle.monitor_pcrs.specs.declared.pcr_steps.PcrSteps.{PcrSteps}

-- there is a bit rate, where one is given
abbrev pub HasRate : Option ℕ → Type 0
HasRate bitrate = IfSome bitrate (λ rate. 1 ≤ rate)

-- what is kept of each PID is its last PCR
pub record Remembers (steps : PcrSteps) (history : List Cell) : Type 0 where
  pub each : (pid : ℕ) → pid < PID_COUNT → slice_index_or steps.clocks pid None ≡ last_clock_on pid history

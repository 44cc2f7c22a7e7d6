-- The PCRs of a stream of a constant bit rate. This project's own rule, over the program_clock_reference of ISO/IEC
-- 13818-1, 2.4.3.5.
use Rattle.std.specs.Prelude.{◌≡◌, ℕ, ◌+◌, ◌<◌, ◌≤◌, List, [], ◌∷◌, false, is_some, IfSome, if◌then◌else◌}
use Rattle.ts_packet.specs.MetRows.{Met}
use Rattle.ts_packet.specs.Header.{pid_of}
use Rattle.ts_packet.specs.Adaptation.{discontinuity_of}
use Rattle.plug_clock.specs.ClockUnits.{clock_at, units_taken}
use Rattle.plug_clock.specs.declared.limits.TheConstants.{CLOCK_RATE}
use Rattle.plug_clock.specs.StreamClock.{time_in}

-- a packet that has this PCR, after one on a PID at a position: its PCR is the clock of its position, at least a unit and at
-- most a second later, and the packet has no discontinuity_indicator
pub record KeepsRate (bitrate start pid before : ℕ) (row : Met) (value : ℕ) : Type 0 where
  pub same_pid : pid_of row.packet ≡ pid
  pub on_time : value ≡ clock_at bitrate start row.at
  pub unflagged : discontinuity_of row.packet ≡ false
  pub later : units_taken bitrate before < units_taken bitrate row.at
  pub within : units_taken bitrate row.at ≤ units_taken bitrate before + CLOCK_RATE

-- the position of the last packet with a PCR, after a packet and the position before it
abbrev pub last_at : ℕ → Met → ℕ
last_at before row = if is_some (time_in row.packet) then row.at else before

-- each of these packets that has a PCR keeps the rate; the first of them comes after one at a position
abbrev pub AllKeepRate : ℕ → ℕ → ℕ → ℕ → List Met → Type 0
AllKeepRate bitrate start pid before [] = Unit {0}
AllKeepRate bitrate start pid before (row ∷ rows) =
    IfSome (time_in row.packet) (KeepsRate bitrate start pid before row)
    × AllKeepRate bitrate start pid (last_at before row) rows

-- What `pcrverify` keeps of the last PCR on each PID. This project's own rule.
use Rattle.std.specs.Prelude.{◌≡◌, ◌<◌, ◌≤◌, ℕ, ◌-◌, List, [], length, true, false, Option, None, Some, IfSome, option_map, if◌then◌else◌}
use Rattle.std.specs.List.{slice_index_or}
use Rattle.ts_packet.specs.declared.cell.Cell.{Cell}
use Rattle.ts_packet.specs.declared.numbers.TheConstants.{PID_COUNT}
use Rattle.ts_packet.specs.MetRows.{Met}
use Rattle.ts_packet.specs.Adaptation.{discontinuity_of}
use Rattle.ts_packet.specs.Pcr.{clock_of}
use Rattle.plugin_options.specs.Selection.{is_selected}
use Rattle.plug_pcr.specs.ClockFaults.{fault_with, last_clock_on}
use Rattle.plug_pcr.specs.ClockJitter.{jitter_of}
use Rattle.plug_pcr.specs.declared.clock_fault.ClockFault.{ClockFault}
use Rattle.plug_clock.specs.declared.last_clock.LastClock.{LastClock}
use Rattle.plug_pcr.specs.declared.last_clocks.LastClocks.{LastClocks}
use Rattle.plug_pcr.specs.declared.pcrverify_conf.PcrverifyConf.{PcrverifyConf}

-- the position and the PCR of a packet with a PCR
abbrev pub kept_of : Met → LastClock
kept_of row = record { at = row.at; clock = clock_of row.packet }

-- those of the last packet with a PCR on a PID
abbrev pub kept_on : ℕ → List Cell → Option LastClock
kept_on pid history = option_map kept_of (last_clock_on pid history)

-- the fault of a packet at a position with this PCR, after the last PCR that is kept
abbrev pub fault_after : ℕ → ℕ → ℕ → Option LastClock → List ℕ → ℕ → List ClockFault
fault_after bitrate jitter_max at None packet clock = []
fault_after bitrate jitter_max at (Some last) packet clock =
    if discontinuity_of packet
    then []
    else fault_with jitter_max at packet (jitter_of bitrate (at - last.at) last.clock clock)

-- the position of the kept PCR is at most this number
abbrev pub IsEarlier : ℕ → Option LastClock → Type 0
IsEarlier count kept = IfSome kept (λ last. last.at ≤ count)

-- the positions of the kept PCRs are at most this number
pub record IsTable (last : LastClocks) (count : ℕ) : Type 0 where
  pub earlier : (pid : ℕ) → IsEarlier count (slice_index_or last.clocks pid None)

-- what is kept of each checked PID is that of the last packet with a PCR on it
pub record Remembers (conf : PcrverifyConf) (last : LastClocks) (history : List Cell) : Type 0 where
  pub table : IsTable last (length history)
  pub each : (pid : ℕ) → pid < PID_COUNT → is_selected conf.pid false pid ≡ true
      → slice_index_or last.clocks pid None ≡ kept_on pid history

-- What packets tell of time: clocks and time stamps. This project's own rule, over ISO/IEC 13818-1, 2.4.3.2, 2.4.3.5 and
-- 2.4.3.7.
use Rattle.std.specs.Prelude.{ℕ, List, [], ◌∷◌, length, Bool, false, ◌==◌, ◌&&◌, ◌||◌, not, is_none, if◌then◌else◌}
use Rattle.ts_packet.specs.declared.cell.Cell.{Cell}
use Rattle.ts_packet.specs.Header.{error_indicator_of, pid_of, scrambling_of, unit_start_of}
use Rattle.ts_packet.specs.Adaptation.{discontinuity_of}
use Rattle.ts_packet.specs.Payload.{payload_of}
use Rattle.plug_clock.specs.StreamClock.{time_in}
use Rattle.plugin_notes.specs.Notes.{notes_after}
use Rattle.plugin_options.specs.Selection.{is_selected}
use Rattle.plug_times.specs.PesTimes.{no_times, times_in}
use Rattle.plug_times.specs.declared.pes_times.PesTimes.{PesTimes}
use Rattle.plug_times.specs.declared.stamp.Stamp.{Stamp}
use Rattle.plug_times.specs.declared.timestamps_conf.TimestampsConf.{TimestampsConf}

-- no time stamp can be read in the packet: it has errors, is scrambled, or no PES packet begins in it
abbrev pub is_closed : List ℕ → Bool
is_closed packet = error_indicator_of packet || (not (scrambling_of packet == 0) || not (unit_start_of packet))

-- the time stamps of the PES packet that begins in it
abbrev pub times_on : List ℕ → PesTimes
times_on packet = if is_closed packet then no_times else times_in (payload_of packet)

-- what the packet at a position tells
abbrev pub stamp_at : ℕ → List ℕ → Stamp
stamp_at at packet = record {
  at = at;
  pid = pid_of packet;
  clock = time_in packet;
  jumps = discontinuity_of packet;
  times = times_on packet;
}

-- it is nothing; a decoding time stamp is never alone
abbrev pub is_empty : Stamp → Bool
is_empty stamp = is_none stamp.clock && is_none stamp.times.presentation

-- what it tells, if it is anything
abbrev pub told_at : ℕ → List ℕ → List Stamp
told_at at packet = if is_empty (stamp_at at packet) then [] else stamp_at at packet ∷ []

-- so of a packet on a PID of the list, after a history of cells
abbrev pub stamps_on : TimestampsConf → List Cell → List ℕ → List Stamp
stamps_on conf history packet =
    if is_selected conf.pid false (pid_of packet) then told_at (length history) packet else []

-- so of the packets of all cells
abbrev pub stamps_in : TimestampsConf → List Cell → List Stamp
stamps_in conf cells = notes_after (stamps_on conf) [] cells

-- What is kept of each PID to check and correct its continuity counters. This project's own rule.
use Rattle.std.specs.Prelude.{◌≡◌, ◌<◌, ℕ, ◌+◌, ◌%◌, List, [], ◌∷◌, Bool, true, not, ◌==◌, ◌&&◌, Option, None, Some, if◌then◌else◌}
use Rattle.std.specs.List.{slice_index_or}
use Rattle.ts_packet.specs.declared.cell.Cell.{Cell}
use Rattle.ts_packet.specs.Header.{pid_of, counter_of, has_payload_of}
use Rattle.ts_packet.specs.Adaptation.{discontinuity_of}
use Rattle.ts_packet.specs.declared.numbers.TheConstants.{PID_COUNT}
use Rattle.plugin_notes.specs.declared.continuity_conf.ContinuityConf.{ContinuityConf}
use Rattle.plugin_notes.specs.Counters.{is_watched, packets_of, last_after, right_counter}
use Rattle.plugin_notes.specs.declared.continuity_error.ContinuityError.{ContinuityError}
use Rattle.plugin_notes.specs.declared.last_packet.LastPacket.{LastPacket}
use Rattle.plugin_notes.specs.declared.last_packets.LastPackets.{LastPackets}

-- of the packets on a PID: the last one's counter, whether it has a payload, and its correct counter
abbrev pub seen_in : List (List ℕ) → Option LastPacket
seen_in [] = None
seen_in (first ∷ rest) = Some (record {
  counter = counter_of (last_after first rest);
  has_payload = has_payload_of (last_after first rest);
  right = right_counter (first ∷ rest);
})

-- a packet duplicates the last one seen
abbrev pub repeats : LastPacket → List ℕ → Bool
repeats seen packet = seen.has_payload && (has_payload_of packet
    && (counter_of packet == seen.counter && not (discontinuity_of packet)))

-- the expected counter of a packet after the last one seen
abbrev pub wanted_after : LastPacket → List ℕ → ℕ
wanted_after seen packet = if has_payload_of packet then (seen.counter + 1) % 16 else seen.counter

-- the packet's counter is a fault
abbrev pub is_wrong : LastPacket → List ℕ → Bool
is_wrong seen packet = not (counter_of packet == wanted_after seen packet)
    && (not (repeats seen packet) && not (discontinuity_of packet))

-- the error of a packet at a position, after the last packet seen on its PID: at most one
abbrev pub fault_after : ℕ → Option LastPacket → List ℕ → List ContinuityError
fault_after at None packet = []
fault_after at (Some seen) packet =
    if is_wrong seen packet
    then record { at = at; pid = pid_of packet; counter = counter_of packet; wanted = wanted_after seen packet } ∷ []
    else []

-- the correct counter of a packet
abbrev pub right_after : Option LastPacket → List ℕ → ℕ
right_after None packet = counter_of packet
right_after (Some seen) packet =
    if has_payload_of packet && not (repeats seen packet) then (seen.right + 1) % 16 else seen.right

-- what is kept after one more packet
abbrev pub seen_with : Option LastPacket → List ℕ → LastPacket
seen_with seen packet = record {
  counter = counter_of packet;
  has_payload = has_payload_of packet;
  right = right_after seen packet;
}

-- both counters are below 16
abbrev pub HasCounters : Option LastPacket → Type 0
HasCounters None = Unit {0}
HasCounters (Some seen) = (seen.counter < 16) × (seen.right < 16)

-- the counters are below 16
pub record IsTable (last : LastPackets) : Type 0 where
  pub small : (pid : ℕ) → HasCounters (slice_index_or last.seen pid None)

-- what is kept of each checked PID is that of the packets on it
pub record Remembers (conf : ContinuityConf) (last : LastPackets) (history : List Cell) : Type 0 where
  pub table : IsTable last
  pub each : (pid : ℕ) → pid < PID_COUNT → is_watched conf pid ≡ true
      → slice_index_or last.seen pid None ≡ seen_in (packets_of pid history)

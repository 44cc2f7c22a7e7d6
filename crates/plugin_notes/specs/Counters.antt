-- Continuity counters and their errors. This project's own rule, over the continuity_counter of ISO/IEC 13818-1,
-- 2.4.3.3.
use Rattle.std.specs.Prelude.{ℕ, ◌+◌, ◌%◌, List, [], ◌∷◌, ◌++◌, filter, Bool, false, not, ◌==◌, ◌&&◌, Option, None, Some, codes, if◌then◌else◌}
use Rattle.std.specs.Fmt.{decimal}
use Rattle.ts_packet.specs.declared.cell.Cell.{Cell}
use Rattle.ts_packet.specs.Cells.{live_packets}
use Rattle.ts_packet.specs.Header.{pid_of, counter_of, has_payload_of}
use Rattle.ts_packet.specs.Adaptation.{discontinuity_of}
use Rattle.ts_packet.specs.declared.numbers.TheConstants.{NULL_PID}
use Rattle.plugin_options.specs.Selection.{is_selected}
use Rattle.plugin_notes.specs.declared.continuity_conf.ContinuityConf.{ContinuityConf}

-- the packets on the PID are checked; those on 8191 never are
abbrev pub is_watched : ContinuityConf → ℕ → Bool
is_watched conf pid = is_selected conf.pid false pid && not (pid == NULL_PID)

-- the packets on a PID in a list of cells
abbrev pub packets_of : ℕ → List Cell → List (List ℕ)
packets_of pid cells = filter (λ packet. pid_of packet == pid) (live_packets cells)

-- a packet duplicates the one before it on its PID: both have a payload and the same counter, and the second has no
-- discontinuity_indicator
abbrev pub is_duplicate : List ℕ → List ℕ → Bool
is_duplicate before packet = has_payload_of before && (has_payload_of packet
    && (counter_of packet == counter_of before && not (discontinuity_of packet)))

-- the expected counter of a packet, given the one before it on its PID: one more if it has a payload, else the same
abbrev pub wanted_behind : List ℕ → List ℕ → ℕ
wanted_behind before packet = if has_payload_of packet then (counter_of before + 1) % 16 else counter_of before

-- the counter is a fault: not the expected one, though the packet is no duplicate and has no discontinuity_indicator
abbrev pub is_fault : List ℕ → List ℕ → Bool
is_fault before packet = not (counter_of packet == wanted_behind before packet)
    && (not (is_duplicate before packet) && not (discontinuity_of packet))

-- `packet <position> pid <pid> counter <c> wanted <w>`
abbrev pub fault_text : ℕ → ℕ → ℕ → ℕ → List ℕ
fault_text at pid counter wanted = codes "packet " ++ (decimal at ++ (codes " pid " ++ (decimal pid
    ++ (codes " counter " ++ (decimal counter ++ (codes " wanted " ++ decimal wanted))))))

-- the last of a packet and those after it
abbrev pub last_after : List ℕ → List (List ℕ) → List ℕ
last_after first [] = first
last_after first (packet ∷ packets) = last_after packet packets

-- the last packet, if there is one
abbrev pub last_in : List (List ℕ) → Option (List ℕ)
last_in [] = None
last_in (first ∷ rest) = Some (last_after first rest)

-- the last packet on a PID
abbrev pub last_of : ℕ → List Cell → Option (List ℕ)
last_of pid history = last_in (packets_of pid history)

-- 1 if a packet increments the counter: it has a payload and is no duplicate
abbrev pub step_after : List ℕ → List ℕ → ℕ
step_after before packet = if has_payload_of packet && not (is_duplicate before packet) then 1 else 0

-- how many of the packets after one on its PID increment the counter
abbrev pub steps_after : List ℕ → List (List ℕ) → ℕ
steps_after before [] = 0
steps_after before (packet ∷ packets) = step_after before packet + steps_after packet packets

-- the correct counter of the last of the packets on a PID, counted on from the first one's counter
abbrev pub right_counter : List (List ℕ) → ℕ
right_counter [] = 0
right_counter (first ∷ rest) = (counter_of first + steps_after first rest) % 16

-- Errors of continuity counters: ETSI TR 101 290, 5.2.1 (1.4 Continuity_count_error: packets out of order, lost, or more than
-- twice), over the continuity_counter and the duplicate packets of ISO/IEC 13818-1, 2.4.3.3.
use Rattle.std.specs.Prelude.{ℕ, List, [], ◌∷◌, take, drop, bytes_eq, Bool, false, not, ◌==◌, ◌&&◌, ◌||◌, is_some, Option, None, Some, if◌then◌else◌}
use Rattle.ts_packet.specs.declared.cell.Cell.{Cell}
use Rattle.ts_packet.specs.declared.numbers.TheConstants.{NULL_PID}
use Rattle.ts_packet.specs.Header.{counter_of, error_indicator_of, pid_of}
use Rattle.ts_packet.specs.Pcr.{pcr_of}
use Rattle.plugin_notes.specs.Counters.{is_duplicate, is_fault, packets_of, wanted_behind}
use Rattle.monitor_counters.specs.declared.counter_error.CounterError.{CounterError}
use Rattle.monitor_counters.specs.declared.counter_error.CounterError.TheVariants.{Wrong, Repeated}
use Rattle.monitor_counters.specs.declared.last_met.LastMet.{LastMet}

-- ---- a duplicate and its original

-- the bytes before the PCR of a packet that has one, and those behind it
abbrev pub is_same_around_pcr : List ℕ → List ℕ → Bool
is_same_around_pcr before packet = bytes_eq (take 6 before) (take 6 packet) && bytes_eq (drop 12 before) (drop 12 packet)

-- the bytes of two packets are the same; but in the PCR they may differ where both have one
abbrev pub is_same : List ℕ → List ℕ → Bool
is_same before packet =
    if is_some (pcr_of before) && is_some (pcr_of packet) then is_same_around_pcr before packet else bytes_eq before packet

-- ---- the last packet on a PID

-- the packet duplicates the last one
abbrev pub repeats_last : Option LastMet → List ℕ → Bool
repeats_last None packet = false
repeats_last (Some last) packet = is_duplicate last.packet packet

-- the last packet after one more on its PID; behind one with a transport_error_indicator counters begin anew
abbrev pub met_with : Option LastMet → List ℕ → Option LastMet
met_with before packet =
    if error_indicator_of packet then None else Some (record { packet = packet; is_repeat = repeats_last before packet })

-- after more of them
abbrev pub met_after : Option LastMet → List (List ℕ) → Option LastMet
met_after before [] = before
met_after before (packet ∷ packets) = met_after (met_with before packet) packets

-- the last packet on a PID in a list of cells
abbrev pub last_met : ℕ → List Cell → Option LastMet
last_met pid cells = met_after None (packets_of pid cells)

-- ---- errors

-- a duplicate is an error where the last packet was one itself, or has other bytes
abbrev pub is_repeated : LastMet → List ℕ → Bool
is_repeated last packet = is_duplicate last.packet packet && (last.is_repeat || not (is_same last.packet packet))

-- the error of a packet behind the last one on its PID: a fault as `continuity` finds it, else such a duplicate
abbrev pub error_behind : LastMet → List ℕ → Option CounterError
error_behind last packet =
    if is_fault last.packet packet
    then Some (Wrong (counter_of packet) (wanted_behind last.packet packet))
    else (if is_repeated last packet then Some Repeated else None)

abbrev pub error_after : Option LastMet → List ℕ → Option CounterError
error_after None packet = None
error_after (Some last) packet = error_behind last packet

-- counters of null packets are not looked at, nor those of packets with a transport_error_indicator
abbrev pub is_checked : List ℕ → Bool
is_checked packet = not (pid_of packet == NULL_PID) && not (error_indicator_of packet)

-- the error of a packet after a history of cells
abbrev pub counter_error_on : List Cell → List ℕ → Option CounterError
counter_error_on history packet = if is_checked packet then error_after (last_met (pid_of packet) history) packet else None

-- Counters that go on over all packets of a PID. ISO/IEC 13818-1, 2.4.3.3: the counter rises with each packet of the
-- PID that has a payload, and with no other. This project's own rule: the first of them has 0.
use Rattle.std.specs.Prelude.{ℕ, ◌+◌, ◌%◌, ◌==◌, ◌&&◌, List, count_by, if◌then◌else◌}
use Rattle.ts_packet.specs.Header.{has_payload_of, pid_of, with_counter}

-- how many of these packets are on the PID and have a payload
abbrev pub payloads_on : ℕ → List (List ℕ) → ℕ
payloads_on pid packets = count_by (λ packet. pid_of packet == pid && has_payload_of packet) packets

-- the counter of a packet behind so many with a payload: it goes on, or without a payload is that of the last of them
abbrev pub counter_behind : ℕ → List ℕ → ℕ
counter_behind number packet = if has_payload_of packet then number % 16 else (number + 15) % 16

-- the packet with that counter, where it is on the PID
abbrev pub counted_on : ℕ → ℕ → List ℕ → List ℕ
counted_on pid number packet =
    if pid_of packet == pid then with_counter packet (counter_behind number packet) else packet

-- the counter of the next packet with a payload, behind a packet
abbrev pub next_behind : ℕ → ℕ → List ℕ → ℕ
next_behind pid next packet = if pid_of packet == pid && has_payload_of packet then (next + 1) % 16 else next

-- The generated stream. This project's own rule, over the packets of ISO/IEC 13818-1, 2.4.3.
use Rattle.std.specs.Prelude.{ℕ, ◌+◌, ◌*◌, ◌/◌, ◌%◌, false, List, [], ◌∷◌, ◌++◌, slice_index_or}
use Rattle.ts_packet.specs.declared.numbers.TheConstants.{SYNC_BYTE}
use Rattle.ts_packet.specs.Header.{with_counter}
use Rattle.ts_packet.specs.Packet.{null_packet}
use Rattle.ts_packet.specs.Pcr.{clock_bytes}
use Rattle.ts_packetize.specs.Packets.{packet_with, packets_of}
use Rattle.ts_testgen.specs.Mixed.{mixed, mixed_bytes}
use Rattle.ts_testgen.specs.GeneratedTables.{pat_section, first_pmt_section, second_pmt_section, sdt_section}
use Rattle.ts_testgen.specs.Rules.{rule_at, pid_by, pid_at, earlier}
use Rattle.ts_testgen.specs.declared.rule.Rule.{Rule}
use Rattle.ts_testgen.specs.declared.rule.Rule.TheVariants.{Pat, FirstPmt, SecondPmt, Sdt, Clock, Null, Payload}

-- what contracts see of a generator: its seed, and the number of packets it has given
pub record Generator : Type 0 where
  pub seed : ℕ
  pub given : ℕ

-- the packet that carries a section; each section of the stream fits one packet
abbrev pub table_packet : ℕ → List ℕ → List ℕ
table_packet pid section = slice_index_or (packets_of pid (section ∷ [])) 0 null_packet

-- the PCR of the packet with a number, in units of 27 MHz
abbrev pub clock_at : ℕ → ℕ
clock_at i = 3000 * i % 2576980377600

-- The packet on PID 256 with an adaptation field, of length 7 and with only the PCR flag set,
-- and 176 bytes of payload.
abbrev pub clock_packet : ℕ → ℕ → List ℕ → List ℕ
clock_packet counter clock payload =
    SYNC_BYTE ∷ 256 / 256 ∷ 256 % 256 ∷ (48 + counter) ∷ 7 ∷ 0x10 ∷
    clock_bytes (clock / 300) (clock % 300) ++ payload

-- a rule's packet, by the mix, the number and the counter
abbrev pub packet_by : Rule → ℕ → ℕ → ℕ → List ℕ
packet_by Pat r i counter = with_counter (table_packet 0 pat_section) counter
packet_by FirstPmt r i counter = with_counter (table_packet 4096 first_pmt_section) counter
packet_by SecondPmt r i counter = with_counter (table_packet 4097 second_pmt_section) counter
packet_by Sdt r i counter = with_counter (table_packet 17 sdt_section) counter
packet_by Clock r i counter = clock_packet counter (clock_at i) (mixed_bytes r 176)
packet_by Null r i counter = null_packet
packet_by Payload r i counter =
    packet_with (pid_by Payload r) counter (record { unit_start = false; payload = mixed_bytes r 184 })

-- the counter of the packet with a number: the number of earlier packets on its PID, modulo 16
abbrev pub counter_at : ℕ → ℕ → ℕ
counter_at seed i = earlier seed (pid_at seed i) i % 16

-- the packet with a number, from 0, of the stream of a seed
abbrev pub generated : ℕ → ℕ → List ℕ
generated seed i = packet_by (rule_at i) (mixed seed i) i (counter_at seed i)

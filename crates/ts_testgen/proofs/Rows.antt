-- Worked rows: packets of the generated stream of the seed 1, computed. The bytes beside them were computed
-- by other means.
use Rattle.std.proofs.Common.{◌≡◌, ℕ, List, [], ◌∷◌, ◌++◌, length, map, replicate, refl}
use Rattle.std.specs.List.{concat}
use Rattle.ts_bit_rows.specs.BitRow.{bit_of, field}
use Rattle.ts_packet.specs.Header.{with_counter}
use Rattle.ts_packet.specs.Packet.{null_packet}
use Rattle.ts_packetize.specs.Packing.{pack, next_step, missing, not_begun}
use Rattle.ts_packetize.specs.Packets.{packets_of}
use Rattle.ts_section.specs.Crc.{crc_of, divided_row, remainder}
use Rattle.ts_section.specs.WrittenSection.{long_section}
use Rattle.ts_testgen.specs.GeneratedTables.{pat_section, first_pmt_section, second_pmt_section, sdt_section}
use Rattle.ts_testgen.specs.Mixed.{mixed_bytes}
use Rattle.ts_testgen.specs.Rules.{rule_at, earlier}
use Rattle.ts_testgen.specs.Generated.{generated}

-- the PAT
pat_bytes : List ℕ
pat_bytes =
    0x00 ∷ 0xB0 ∷ 0x11 ∷ 0x00 ∷ 0x01 ∷ 0xC1 ∷ 0x00 ∷ 0x00 ∷ 0x00 ∷ 0x01 ∷ 0xF0 ∷ 0x00 ∷ 0x00 ∷ 0x02 ∷
    0xF0 ∷ 0x01 ∷ 0x20 ∷ 0x82 ∷ 0x7A ∷ 0x4D ∷ []

pat_written : pat_section ≡ pat_bytes
unfolding pat_section long_section crc_of divided_row remainder field bit_of pat_bytes
pat_written = refl

-- the PMT of service 1
first_pmt_bytes : List ℕ
first_pmt_bytes =
    0x02 ∷ 0xB0 ∷ 0x17 ∷ 0x00 ∷ 0x01 ∷ 0xC1 ∷ 0x00 ∷ 0x00 ∷ 0xE1 ∷ 0x00 ∷ 0xF0 ∷ 0x00 ∷ 0x02 ∷ 0xE1 ∷
    0x00 ∷ 0xF0 ∷ 0x00 ∷ 0x03 ∷ 0xE1 ∷ 0x01 ∷ 0xF0 ∷ 0x00 ∷ 0xF6 ∷ 0x4A ∷ 0x03 ∷ 0x55 ∷ []

first_pmt_written : first_pmt_section ≡ first_pmt_bytes
unfolding first_pmt_section long_section crc_of divided_row remainder field bit_of first_pmt_bytes
first_pmt_written = refl

-- the PMT of service 2
second_pmt_bytes : List ℕ
second_pmt_bytes =
    0x02 ∷ 0xB0 ∷ 0x17 ∷ 0x00 ∷ 0x02 ∷ 0xC1 ∷ 0x00 ∷ 0x00 ∷ 0xE1 ∷ 0x00 ∷ 0xF0 ∷ 0x00 ∷ 0x02 ∷ 0xE1 ∷
    0x02 ∷ 0xF0 ∷ 0x00 ∷ 0x03 ∷ 0xE1 ∷ 0x03 ∷ 0xF0 ∷ 0x00 ∷ 0xC5 ∷ 0xD1 ∷ 0x84 ∷ 0xE7 ∷ []

second_pmt_written : second_pmt_section ≡ second_pmt_bytes
unfolding second_pmt_section long_section crc_of divided_row remainder field bit_of second_pmt_bytes
second_pmt_written = refl

-- the SDT
sdt_bytes : List ℕ
sdt_bytes =
    0x42 ∷ 0xF0 ∷ 0x2E ∷ 0x00 ∷ 0x01 ∷ 0xC1 ∷ 0x00 ∷ 0x00 ∷ 0x00 ∷ 0x01 ∷ 0xFF ∷ 0x00 ∷ 0x01 ∷ 0xFC ∷
    0x80 ∷ 0x0C ∷ 0x48 ∷ 0x0A ∷ 0x01 ∷ 0x04 ∷ 0x74 ∷ 0x65 ∷ 0x73 ∷ 0x74 ∷ 0x03 ∷ 0x6F ∷ 0x6E ∷ 0x65 ∷
    0x00 ∷ 0x02 ∷ 0xFC ∷ 0x80 ∷ 0x0C ∷ 0x48 ∷ 0x0A ∷ 0x01 ∷ 0x04 ∷ 0x74 ∷ 0x65 ∷ 0x73 ∷ 0x74 ∷ 0x03 ∷
    0x74 ∷ 0x77 ∷ 0x6F ∷ 0xA7 ∷ 0x99 ∷ 0x7D ∷ 0x06 ∷ []

sdt_written : sdt_section ≡ sdt_bytes
unfolding sdt_section long_section crc_of divided_row remainder field bit_of sdt_bytes
sdt_written = refl

-- each of the four is carried by one packet
one_packet_each :
    map (λ section. length (packets_of 17 (section ∷ []))) (pat_section ∷ first_pmt_section ∷ second_pmt_section ∷ sdt_section ∷ [])
    ≡ replicate 4 1
unfolding packets_of pack next_step missing not_begun pat_section first_pmt_section second_pmt_section sdt_section long_section crc_of divided_row remainder field bit_of
one_packet_each = refl

-- the PAT
packet_0 :
    generated 1 0
    ≡ 0x47 ∷ 0x40 ∷ 0x00 ∷ 0x10 ∷ 0 ∷ pat_bytes ++ replicate 163 0xFF
unfolding rule_at earlier with_counter packets_of pack next_step missing not_begun pat_section pat_bytes long_section crc_of divided_row remainder field bit_of
packet_0 = refl

-- the PMT of service 1
packet_1 :
    generated 1 1
    ≡ 0x47 ∷ 0x50 ∷ 0x00 ∷ 0x10 ∷ 0 ∷ first_pmt_bytes ++ replicate 157 0xFF
unfolding rule_at earlier with_counter packets_of pack next_step missing not_begun first_pmt_section first_pmt_bytes long_section crc_of divided_row remainder field bit_of
packet_1 = refl

-- the PMT of service 2
packet_2 :
    generated 1 2
    ≡ 0x47 ∷ 0x50 ∷ 0x01 ∷ 0x10 ∷ 0 ∷ second_pmt_bytes ++ replicate 157 0xFF
unfolding rule_at earlier with_counter packets_of pack next_step missing not_begun second_pmt_section second_pmt_bytes long_section crc_of divided_row remainder field bit_of
packet_2 = refl

-- the SDT
packet_3 :
    generated 1 3
    ≡ 0x47 ∷ 0x40 ∷ 0x11 ∷ 0x10 ∷ 0 ∷ sdt_bytes ++ replicate 134 0xFF
unfolding rule_at earlier with_counter packets_of pack next_step missing not_begun sdt_section sdt_bytes long_section crc_of divided_row remainder field bit_of
packet_3 = refl

-- a PCR of 12000, which is 40 times 300
packet_4 :
    generated 1 4
    ≡ 0x47 ∷ 0x01 ∷ 0x00 ∷ 0x30 ∷ 7 ∷ 0x10 ∷ 0 ∷ 0 ∷ 0 ∷ 20 ∷ 0x7E ∷ 0 ∷ concat (replicate 22 (0x5D ∷ 0x7C ∷ 0xE8 ∷ 0xC2 ∷ 0x8E ∷ 0x34 ∷ 0xF1 ∷ 0x25 ∷ []))
unfolding rule_at earlier mixed_bytes
packet_4 = refl

-- a payload on PID 258
packet_5 :
    generated 1 5
    ≡ 0x47 ∷ 0x01 ∷ 0x02 ∷ 0x10 ∷ concat (replicate 23 (0x8A ∷ 0xFB ∷ 0x7D ∷ 0x0F ∷ 0xBC ∷ 0x28 ∷ 0x43 ∷ 0x7E ∷ []))
unfolding rule_at earlier mixed_bytes
packet_5 = refl

-- the null packet
packet_9 :
    generated 1 9
    ≡ null_packet
unfolding rule_at
packet_9 = refl

-- the second payload on PID 259
packet_10 :
    generated 1 10
    ≡ 0x47 ∷ 0x01 ∷ 0x03 ∷ 0x11 ∷ concat (replicate 23 (0x6B ∷ 0x77 ∷ 0x69 ∷ 0x8E ∷ 0x9E ∷ 0xED ∷ 0xDC ∷ 0x37 ∷ []))
unfolding rule_at earlier mixed_bytes
packet_10 = refl

-- the second PAT
packet_50 :
    generated 1 50
    ≡ 0x47 ∷ 0x40 ∷ 0x00 ∷ 0x11 ∷ 0 ∷ pat_bytes ++ replicate 163 0xFF
unfolding rule_at earlier with_counter packets_of pack next_step missing not_begun pat_section pat_bytes long_section crc_of divided_row remainder field bit_of
packet_50 = refl

-- Worked rows: times and packets, computed on the definitions.
use Rattle.std.proofs.Common.{◌≡◌, pos, negsuc, true, false, List, [], ◌∷◌, ◌++◌, ℕ, replicate, None, Some, refl}
use Rattle.ts_bit_rows.specs.BitRow.{bit_of, field}
use Rattle.ts_fields.specs.Times.{is_pair, is_time}
use Rattle.ts_packet.specs.Adaptation.{adaptation_length_of}
use Rattle.ts_packet.specs.Payload.{payload_start_of}
use Rattle.ts_section.specs.Crc.{crc_of, divided_row, remainder}
use Rattle.ts_section.specs.SectionFields.{front_of}
use Rattle.ts_demux.specs.Cut.{is_whole_in_front}
use Rattle.plug_time.specs.HasTime.{has_time, has_time_from}
use Rattle.plug_time.specs.MovedTimes.{moved_from, moved_packet, moved_section}
use Rattle.plug_time.specs.UtcTime.{later}

-- 1993-10-13 12:45:00, the example of annex C, an hour later, at its day's beginning, and a second before that
hour-later : later (pos 3600) (0xC0 ∷ 0x79 ∷ 0x12 ∷ 0x45 ∷ 0x00 ∷ []) ≡ Some (0xC0 ∷ 0x79 ∷ 0x13 ∷ 0x45 ∷ 0x00 ∷ [])
unfolding later is_time is_pair
hour-later = refl

midnight : later (negsuc 45899) (0xC0 ∷ 0x79 ∷ 0x12 ∷ 0x45 ∷ 0x00 ∷ []) ≡ Some (0xC0 ∷ 0x79 ∷ 0x00 ∷ 0x00 ∷ 0x00 ∷ [])
unfolding later is_time is_pair
midnight = refl

day-before : later (negsuc 45900) (0xC0 ∷ 0x79 ∷ 0x12 ∷ 0x45 ∷ 0x00 ∷ []) ≡ Some (0xC0 ∷ 0x78 ∷ 0x23 ∷ 0x59 ∷ 0x59 ∷ [])
unfolding later is_time is_pair
day-before = refl

-- an undefined time, one beyond the last day, and one before the first
undefined : later (pos 1) (0xFF ∷ 0xFF ∷ 0xFF ∷ 0xFF ∷ 0xFF ∷ []) ≡ None
unfolding later is_time is_pair
undefined = refl

after-the-last : later (pos 1) (0xFF ∷ 0xFF ∷ 0x23 ∷ 0x59 ∷ 0x59 ∷ []) ≡ None
unfolding later is_time is_pair
after-the-last = refl

before-the-first : later (negsuc 0) (0x00 ∷ 0x00 ∷ 0x00 ∷ 0x00 ∷ 0x00 ∷ []) ≡ None
unfolding later is_time is_pair
before-the-first = refl

-- a packet on PID 20 with a unit start and a pointer of 0, and these bytes behind it
abbrev packet_of : List ℕ → ℕ → List ℕ
packet_of bytes rest = 0x47 ∷ 0x40 ∷ 0x14 ∷ 0x10 ∷ 0x00 ∷ (bytes ++ replicate rest 0xFF)

-- a TDT and a TOT in one packet, an hour later; the TOT has another CRC
both : moved_packet (pos 3600) (packet_of (0x70 ∷ 0x70 ∷ 0x05 ∷ 0xC0 ∷ 0x79 ∷ 0x12 ∷ 0x45 ∷ 0x00
    ∷ 0x73 ∷ 0x70 ∷ 0x0B ∷ 0xC0 ∷ 0x79 ∷ 0x12 ∷ 0x45 ∷ 0x00 ∷ 0xF0 ∷ 0x00 ∷ 0x4E ∷ 0xED ∷ 0x84 ∷ 0x55 ∷ []) 161)
    ≡ packet_of (0x70 ∷ 0x70 ∷ 0x05 ∷ 0xC0 ∷ 0x79 ∷ 0x13 ∷ 0x45 ∷ 0x00
    ∷ 0x73 ∷ 0x70 ∷ 0x0B ∷ 0xC0 ∷ 0x79 ∷ 0x13 ∷ 0x45 ∷ 0x00 ∷ 0xF0 ∷ 0x00 ∷ 0x07 ∷ 0xE0 ∷ 0xE3 ∷ 0xD8 ∷ []) 161
unfolding moved_packet moved_from moved_section later is_time is_pair front_of is_whole_in_front field bit_of payload_start_of adaptation_length_of crc_of divided_row remainder
both = refl

-- with a shift of 0 they are as they were
neither-moved : moved_packet (pos 0) (packet_of (0x70 ∷ 0x70 ∷ 0x05 ∷ 0xC0 ∷ 0x79 ∷ 0x12 ∷ 0x45 ∷ 0x00
    ∷ 0x73 ∷ 0x70 ∷ 0x0B ∷ 0xC0 ∷ 0x79 ∷ 0x12 ∷ 0x45 ∷ 0x00 ∷ 0xF0 ∷ 0x00 ∷ 0x4E ∷ 0xED ∷ 0x84 ∷ 0x55 ∷ []) 161)
    ≡ packet_of (0x70 ∷ 0x70 ∷ 0x05 ∷ 0xC0 ∷ 0x79 ∷ 0x12 ∷ 0x45 ∷ 0x00
    ∷ 0x73 ∷ 0x70 ∷ 0x0B ∷ 0xC0 ∷ 0x79 ∷ 0x12 ∷ 0x45 ∷ 0x00 ∷ 0xF0 ∷ 0x00 ∷ 0x4E ∷ 0xED ∷ 0x84 ∷ 0x55 ∷ []) 161
unfolding moved_packet moved_from moved_section later is_time is_pair front_of is_whole_in_front field bit_of payload_start_of adaptation_length_of crc_of divided_row remainder
neither-moved = refl

-- a TOT with a wrong CRC stays
wrong-crc : moved_packet (pos 3600) (packet_of (0x73 ∷ 0x70 ∷ 0x0B ∷ 0xC0 ∷ 0x79 ∷ 0x12 ∷ 0x45 ∷ 0x00 ∷ 0xF0 ∷ 0x00 ∷ 0x4E ∷ 0xED ∷ 0x84 ∷ 0x56 ∷ []) 169)
    ≡ packet_of (0x73 ∷ 0x70 ∷ 0x0B ∷ 0xC0 ∷ 0x79 ∷ 0x12 ∷ 0x45 ∷ 0x00 ∷ 0xF0 ∷ 0x00 ∷ 0x4E ∷ 0xED ∷ 0x84 ∷ 0x56 ∷ []) 169
unfolding moved_packet moved_from moved_section later is_time is_pair front_of is_whole_in_front field bit_of payload_start_of adaptation_length_of crc_of divided_row remainder
wrong-crc = refl

-- a packet with a TDT has a time, one that is undefined too
with-tdt : has_time (packet_of (0x70 ∷ 0x70 ∷ 0x05 ∷ 0xC0 ∷ 0x79 ∷ 0x12 ∷ 0x45 ∷ 0x00 ∷ []) 175) ≡ true
unfolding has_time has_time_from front_of is_whole_in_front field bit_of payload_start_of adaptation_length_of crc_of divided_row remainder
with-tdt = refl

undefined-tdt : has_time (packet_of (0x70 ∷ 0x70 ∷ 0x05 ∷ 0xFF ∷ 0xFF ∷ 0xFF ∷ 0xFF ∷ 0xFF ∷ []) 175) ≡ true
unfolding has_time has_time_from front_of is_whole_in_front field bit_of payload_start_of adaptation_length_of crc_of divided_row remainder
undefined-tdt = refl

-- so has one with a TOT behind another section, but where its CRC is wrong
behind-another : has_time (packet_of (0x72 ∷ 0x70 ∷ 0x00
    ∷ 0x73 ∷ 0x70 ∷ 0x0B ∷ 0xC0 ∷ 0x79 ∷ 0x12 ∷ 0x45 ∷ 0x00 ∷ 0xF0 ∷ 0x00 ∷ 0x4E ∷ 0xED ∷ 0x84 ∷ 0x55 ∷ []) 166) ≡ true
unfolding has_time has_time_from front_of is_whole_in_front field bit_of payload_start_of adaptation_length_of crc_of divided_row remainder
behind-another = refl

with-a-wrong-crc : has_time (packet_of (0x73 ∷ 0x70 ∷ 0x0B ∷ 0xC0 ∷ 0x79 ∷ 0x12 ∷ 0x45 ∷ 0x00 ∷ 0xF0 ∷ 0x00 ∷ 0x4E ∷ 0xED ∷ 0x84 ∷ 0x56 ∷ []) 169) ≡ false
unfolding has_time has_time_from front_of is_whole_in_front field bit_of payload_start_of adaptation_length_of crc_of divided_row remainder
with-a-wrong-crc = refl

-- and one of stuffing alone has none
no-section : has_time (packet_of [] 183) ≡ false
unfolding has_time has_time_from front_of is_whole_in_front field bit_of payload_start_of adaptation_length_of crc_of divided_row remainder
no-section = refl

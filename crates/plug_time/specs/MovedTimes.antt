-- A packet with the times in it moved.
-- ETSI EN 300 468, 5.2.5 (TDT) and 5.2.6 (TOT), on PID 0x0014 (5.1.3); ISO/IEC 13818-1, 2.4.4.2: the pointer_field says where in a
-- payload the first section begins. That a section is moved in the packet in which it begins and ends, and no other is, is this
-- project's own rule.
use Rattle.std.specs.Prelude.{ℕ, ℤ, zero, suc, ◌+◌, ◌-◌, ◌==◌, ◌&&◌, not, nat_le, bytes_eq, List, length, take, drop, slice_index, Bool, Option, Some, None, if◌then◌else◌}
use Rattle.std.specs.List.{slice_range}
use Rattle.ts_packet.specs.Header.{unit_start_of}
use Rattle.ts_packet.specs.Payload.{payload_start_of, with_piece}
use Rattle.ts_section.specs.Crc.{crc_of}
use Rattle.ts_section.specs.SectionFields.{front_of, is_long, section_length_of, table_id_of}
use Rattle.ts_section.specs.WrittenSection.{four_bytes}
use Rattle.ts_demux.specs.CountedPackets.{counts}
use Rattle.ts_demux.specs.Cut.{is_whole_in_front, size_in_front}
use Rattle.plug_time.specs.UtcTime.{later}
use Rattle.plug_time.specs.declared.numbers.TheConstants.{MOST_SECTIONS, TDT_ID, TIME_PID, TOT_ID}

-- a whole section is a TDT: of the short form, with a time and nothing else
abbrev pub is_tdt : List ℕ → Bool
is_tdt s = table_id_of s == TDT_ID && (not (is_long s) && section_length_of s == 5)

-- the last four bytes are the CRC of those before them
abbrev pub has_right_crc : List ℕ → Bool
has_right_crc s = bytes_eq (drop (length s - 4) s) (four_bytes (crc_of (take (length s - 4) s)))

-- a whole section is a TOT with a right CRC: of the short form, with room for a time, the length of its descriptors and a CRC
abbrev pub is_tot : List ℕ → Bool
is_tot s = table_id_of s == TOT_ID && (not (is_long s) && (nat_le 11 (section_length_of s) && has_right_crc s))

-- the time of a TDT or a TOT, which is behind section_length
abbrev pub time_of : List ℕ → List ℕ
time_of s = take 5 (drop 3 s)

-- a row with this time in the section at a place; the row as it is where there is none
abbrev pub with_time : ℕ → Option (List ℕ) → List ℕ → List ℕ
with_time at None row = row
with_time at (Some time) row = with_piece row (at + 3) time

-- a row with the CRC of the section at a place up to an end, written in the section's last four bytes
abbrev pub with_crc : ℕ → ℕ → List ℕ → List ℕ
with_crc at end row = with_piece row (end - 4) (four_bytes (crc_of (slice_range row at (end - 4))))

-- a row with this time and then its CRC in the section at a place up to an end; the row as it is where there is no time
abbrev pub with_time_and_crc : ℕ → ℕ → Option (List ℕ) → List ℕ → List ℕ
with_time_and_crc at end None row = row
with_time_and_crc at end (Some time) row = with_crc at end (with_piece row (at + 3) time)

-- a row with the whole section at a place moved, where it is a TDT or a TOT with a right CRC
unfoldable pub moved_section : ℤ → ℕ → List ℕ → List ℕ
moved_section shift at row =
    let s = front_of (drop at row) in
    if is_tdt s then with_time at (later shift (time_of s)) row
    else if is_tot s then with_time_and_crc at (at + size_in_front (drop at row)) (later shift (time_of s)) row
    else row

-- a row with at most so many whole sections moved, which follow one another from a place on
unfoldable pub moved_from : ℕ → ℤ → ℕ → List ℕ → List ℕ
moved_from zero shift at row = row
moved_from (suc more) shift at row =
    if is_whole_in_front (drop at row)
    then moved_from more shift (at + size_in_front (drop at row)) (moved_section shift at row)
    else row

-- a packet whose payload begins at a place and with a pointer_field; one that points beyond the payload meets no section there.
-- No payload has more sections than these, of three bytes each
abbrev pub moved_in : ℤ → Option ℕ → List ℕ → List ℕ
moved_in shift None packet = packet
moved_in shift (Some start) packet =
    moved_from MOST_SECTIONS shift (start + 1 + slice_index packet start) packet

-- a packet counts for the sections of TDT and TOT
abbrev pub is_of_time : List ℕ → Bool
is_of_time packet = counts TIME_PID packet

-- a packet with the times moved that begin and end in it: it counts, and has a unit start
unfoldable pub moved_packet : ℤ → List ℕ → List ℕ
moved_packet shift packet =
    if is_of_time packet && unit_start_of packet then moved_in shift (payload_start_of packet) packet else packet

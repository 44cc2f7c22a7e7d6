-- The presentation and decoding time stamps in the header of a PES packet. ISO/IEC 13818-1, 2.4.3.6 and 2.4.3.7.
use Rattle.std.specs.Prelude.{ℕ, ◌+◌, ◌*◌, ◌/◌, ◌^◌, List, length, take, drop, slice_index, Bool, ◌==◌, ◌&&◌, ◌||◌, not, nat_le, Option, None, Some, if◌then◌else◌}
use Rattle.ts_bit_rows.specs.BitRow.{field}
use Rattle.plug_times.specs.declared.pes_times.PesTimes.{PesTimes}

-- a PES packet with this stream_id has no header after its length: program_stream_map, padding_stream, private_stream_2,
-- ECM_stream, EMM_stream, DSMCC_stream, ITU-T H.222.1 type E and program_stream_directory
abbrev pub is_headless : ℕ → Bool
is_headless id = id == 188 || (id == 190 || (id == 191 || (id == 240 || (id == 241 || (id == 242 || (id == 248 || id == 255))))))

-- the payload begins with a PES packet that has such a header: packet_start_code_prefix, stream_id, two bytes of length,
-- and the two bits '10'
abbrev pub has_header : List ℕ → Bool
has_header payload = nat_le 9 (length payload) && (slice_index payload 0 == 0 && (slice_index payload 1 == 0 && (slice_index payload 2 == 1
    && (not (is_headless (slice_index payload 3)) && slice_index payload 6 / 64 == 2))))

-- PES_header_data_length is at least this, and as many bytes as it says are in the payload
abbrev pub has_bytes : ℕ → List ℕ → Bool
has_bytes least payload = nat_le least (slice_index payload 8) && nat_le (9 + slice_index payload 8) (length payload)

-- the three marker bits of a time stamp of five bytes are ones
unfoldable pub is_marked : List ℕ → Bool
is_marked five = field five 7 1 == 1 && (field five 23 1 == 1 && field five 39 1 == 1)

-- its 33 bits, which are between the markers
unfoldable pub stamp_value : List ℕ → ℕ
stamp_value five = field five 4 3 * 2 ^ 30 + (field five 8 15 * 2 ^ 15 + field five 24 15)

-- the time stamp of five bytes, where they begin with this prefix of four bits and the markers are ones
unfoldable pub stamp_of : ℕ → List ℕ → Option ℕ
stamp_of prefix five = if field five 0 4 == prefix && is_marked five then Some (stamp_value five) else None

-- neither of the time stamps
abbrev pub no_times : PesTimes
no_times = record { presentation = None; decoding = None }

-- both of them, or neither where one is missing
abbrev pub both_times : Option ℕ → Option ℕ → PesTimes
both_times None decoding = no_times
both_times (Some presentation) None = no_times
both_times (Some presentation) (Some decoding) = record { presentation = Some presentation; decoding = Some decoding }

-- the time stamps that PTS_DTS_flags announce: '10' a PTS with the prefix '0010', '11' a PTS with '0011' and a DTS with '0001'
abbrev pub flagged_times : ℕ → List ℕ → PesTimes
flagged_times flags payload =
    if flags == 2 && has_bytes 5 payload
    then (record { presentation = stamp_of 2 (take 5 (drop 9 payload)); decoding = None })
    else (if flags == 3 && has_bytes 10 payload
    then both_times (stamp_of 3 (take 5 (drop 9 payload))) (stamp_of 1 (take 5 (drop 14 payload)))
    else no_times)

-- the time stamps of the PES packet that a payload begins with
abbrev pub times_in : List ℕ → PesTimes
times_in payload = if has_header payload then flagged_times (slice_index payload 7 / 64) payload else no_times

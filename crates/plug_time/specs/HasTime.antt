-- A packet has a time.
-- ETSI EN 300 468, 5.2.5 (TDT) and 5.2.6 (TOT), on PID 0x0014 (5.1.3); ISO/IEC 13818-1, 2.4.4.2: the pointer_field says where in a
-- payload the first section begins. That a section counts in the packet in which it begins and ends, and that an undefined time
-- counts too, is this project's own rule.
use Rattle.std.specs.Prelude.{ℕ, zero, suc, ◌+◌, ◌&&◌, ◌||◌, List, drop, slice_index, Bool, false, Option, Some, None, if◌then◌else◌}
use Rattle.ts_packet.specs.declared.cell.Cell.{Cell}
use Rattle.ts_packet.specs.Header.{unit_start_of}
use Rattle.ts_packet.specs.Payload.{payload_start_of}
use Rattle.ts_section.specs.SectionFields.{front_of}
use Rattle.ts_demux.specs.Cut.{is_whole_in_front, size_in_front}
use Rattle.plug_time.specs.MovedTimes.{is_of_time, is_tdt, is_tot}
use Rattle.plug_time.specs.declared.numbers.TheConstants.{MOST_SECTIONS}

-- a whole section is a TDT, or a TOT with a right CRC
abbrev pub tells_time : List ℕ → Bool
tells_time s = is_tdt s || is_tot s

-- one of at most so many whole sections that follow one another from a place on tells a time
unfoldable pub has_time_from : ℕ → ℕ → List ℕ → Bool
has_time_from zero at row = false
has_time_from (suc more) at row =
    if is_whole_in_front (drop at row)
    then tells_time (front_of (drop at row)) || has_time_from more (at + size_in_front (drop at row)) row
    else false

-- the same for a packet whose payload begins at a place and with a pointer_field
abbrev pub has_time_in : Option ℕ → List ℕ → Bool
has_time_in None packet = false
has_time_in (Some start) packet = has_time_from MOST_SECTIONS (start + 1 + slice_index packet start) packet

-- a TDT, or a TOT with a right CRC, begins and ends in a packet, which counts and has a unit start
unfoldable pub has_time : List ℕ → Bool
has_time packet = is_of_time packet && (unit_start_of packet && has_time_in (payload_start_of packet) packet)

-- the same for a live cell, after these cells
abbrev pub finds_time : List Cell → List ℕ → ℕ → Bool
finds_time history packet labels = has_time packet

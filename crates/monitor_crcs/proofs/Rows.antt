-- Worked rows of sections with a wrong CRC.
use Rattle.std.proofs.Common.{◌≡◌, ℕ, true, false, List, [], ◌∷◌, ◌++◌, drop, map, take, refl}
use Rattle.ts_bit_rows.specs.BitRow.{bit_of, field}
use Rattle.ts_section.specs.Crc.{crc_of, divided_row, remainder}
use Rattle.ts_packet.specs.Payload.{payload_of, payload_start_of}
use Rattle.ts_packet.specs.Adaptation.{adaptation_length_of}
use Rattle.ts_demux.specs.CountedPackets.{counted}
use Rattle.ts_demux.specs.Cut.{cut, cut_at_most, is_whole_in_front}
use Rattle.ts_demux.specs.Part.{Part}
use Rattle.monitor_crcs.specs.WrongCrcs.{has_crc, is_spoiled, is_told, spoiled_in, spoiled_of_parts, spoiled_of_pid, told_in, told_of_parts, told_of_pid, told_piece}

-- which pieces have a CRC: one of the long form, but not where its numbers are out of order or it is too short; a TOT of the
-- short form, and no TDT
abbrev long : ℕ → ℕ → List ℕ
long number last = 0 ∷ 0xB0 ∷ 9 ∷ 0 ∷ 1 ∷ 0xC1 ∷ number ∷ last ∷ 1 ∷ 2 ∷ 3 ∷ 4 ∷ []

pieces_with_a_crc : map has_crc (long 0 0 ∷ long 1 0 ∷ (0 ∷ 0xB0 ∷ 1 ∷ 7 ∷ []) ∷ (0x73 ∷ 0x70 ∷ 1 ∷ 7 ∷ []) ∷ (0x70 ∷ 0x70 ∷ 1 ∷ 7 ∷ []) ∷ [])
    ≡ true ∷ false ∷ false ∷ true ∷ false ∷ []
unfolding field bit_of
pieces_with_a_crc = refl

tables_told : map is_told (0 ∷ 3 ∷ 65 ∷ 77 ∷ 78 ∷ 111 ∷ 112 ∷ 115 ∷ []) ≡ true ∷ false ∷ true ∷ false ∷ true ∷ true ∷ false ∷ true ∷ []
tables_told = refl

-- a CAT without descriptors, with the last byte of its CRC as it is to be, and one more
abbrev cat : ℕ → List ℕ
cat last = 0x01 ∷ 0xB0 ∷ 0x09 ∷ 0xFF ∷ 0xFF ∷ 0xC1 ∷ 0x00 ∷ 0x00 ∷ 0xD6 ∷ 0x6D ∷ 0xA2 ∷ last ∷ []

-- a stretch of both, with stuffing: one is spoiled
one_of_two : spoiled_in (cat 0x43 ++ (cat 0x42 ++ 0xFF ∷ [])) ≡ cat 0x43 ∷ []
unfolding spoiled_in is_spoiled cut cut_at_most is_whole_in_front crc_of divided_row remainder field bit_of
one_of_two = refl

-- over two packets it is found where the counter goes on, and not over a jump
abbrev begun : Part
begun = record { counter = 3; unit_start = true; payload = 0 ∷ take 5 (cat 0x43) }

abbrev ended : ℕ → Part
ended counter = record { counter = counter; unit_start = false; payload = drop 5 (cat 0x43) }

over_two_packets : spoiled_of_parts (begun ∷ ended 4 ∷ []) ≡ cat 0x43 ∷ []
unfolding spoiled_of_parts spoiled_in is_spoiled cut cut_at_most is_whole_in_front crc_of divided_row remainder field bit_of
over_two_packets = refl

over_a_jump : spoiled_of_parts (begun ∷ ended 5 ∷ []) ≡ []
unfolding spoiled_of_parts spoiled_in is_spoiled cut cut_at_most is_whole_in_front crc_of divided_row remainder field bit_of
over_a_jump = refl

-- a TOT of the short form with a CRC of zeros, and a TDT behind it
a_tot : spoiled_in (0x73 ∷ 0x70 ∷ 0x0B ∷ 0xE0 ∷ 0 ∷ 0 ∷ 0 ∷ 0 ∷ 0xF0 ∷ 0 ∷ 0 ∷ 0 ∷ 0 ∷ 0 ∷ 0x70 ∷ 0x70 ∷ 0x05 ∷ 0xE0 ∷ 0 ∷ 0 ∷ 0 ∷ 0 ∷ [])
    ≡ (0x73 ∷ 0x70 ∷ 0x0B ∷ 0xE0 ∷ 0 ∷ 0 ∷ 0 ∷ 0 ∷ 0xF0 ∷ 0 ∷ 0 ∷ 0 ∷ 0 ∷ 0 ∷ []) ∷ []
unfolding spoiled_in is_spoiled cut cut_at_most is_whole_in_front crc_of divided_row remainder field bit_of
a_tot = refl

-- of a PID: packets of others, and scrambled ones, have none
abbrev with_head : ℕ → ℕ → List ℕ
with_head pid flags = 0x47 ∷ 0x40 ∷ pid ∷ flags ∷ 0 ∷ cat 0x43

of_a_pid : spoiled_of_pid 1 (with_head 2 0x10 ∷ with_head 1 0x90 ∷ with_head 1 0x10 ∷ []) ≡ cat 0x43 ∷ []
unfolding counted payload_start_of payload_of adaptation_length_of spoiled_of_parts spoiled_in is_spoiled cut cut_at_most is_whole_in_front crc_of divided_row remainder field bit_of
of_a_pid = refl

-- what is told of it: its table_id; a spoiled section of another table, as an MPE section, is not told
told_of_a_pid : told_of_pid 1 (with_head 2 0x10 ∷ with_head 1 0x90 ∷ with_head 1 0x10 ∷ []) ≡ 1 ∷ []
unfolding counted payload_start_of payload_of adaptation_length_of told_of_parts told_in told_piece is_spoiled cut cut_at_most is_whole_in_front crc_of divided_row remainder field bit_of
told_of_a_pid = refl

not_told : told_in (0x3E ∷ drop 1 (cat 0x43)) ≡ []
unfolding told_in told_piece is_spoiled cut cut_at_most is_whole_in_front crc_of divided_row remainder field bit_of
not_told = refl

-- Worked rows: what leaves in the places of packets on PID 18, computed on the definitions. Sections are of the short form,
-- and packets have no stuffing where they come in.
use Rattle.std.proofs.Common.{◌≡◌, ℕ, ◌+◌, ◌==◌, List, [], ◌∷◌, ◌++◌, replicate, slice_index, Some, None, refl}
use Rattle.std.specs.Prelude.{if◌then◌else◌}
use Rattle.ts_bit_rows.specs.BitRow.{bit_of, field}
use Rattle.ts_packet.specs.Header.{with_counter}
use Rattle.ts_packet.specs.Packet.{null_packet}
use Rattle.ts_packet.specs.Payload.{payload_start_of, payload_of}
use Rattle.ts_section.specs.FirstBroken.{first_broken}
use Rattle.ts_demux.specs.CountedPackets.{counted}
use Rattle.ts_demux.specs.Cut.{is_whole_in_front, cut_at_most, cut}
use Rattle.ts_demux.specs.SectionsOfParts.{sections_in, sections_of_parts}
use Rattle.ts_packetize.specs.Packing.{missing, not_begun, next_step}
use Rattle.section_flow.specs.Flow.{Edit, given_for, given_from, all_given}

-- two sections of four bytes
abbrev one : List ℕ
one = 0x70 ∷ 0x30 ∷ 0x01 ∷ 0xAA ∷ []

abbrev two : List ℕ
two = 0x70 ∷ 0x30 ∷ 0x01 ∷ 0xBB ∷ []

-- a packet with this counter in which a section begins at once, one in which none does, and a scrambled one
abbrev begins : ℕ → List ℕ → List ℕ
begins counter bytes = 0x47 ∷ 0x40 ∷ 0x12 ∷ (0x10 + counter) ∷ 0x00 ∷ bytes

abbrev goes_on : ℕ → List ℕ → List ℕ
goes_on counter bytes = 0x47 ∷ 0x00 ∷ 0x12 ∷ (0x10 + counter) ∷ bytes

abbrev scrambled : ℕ → List ℕ
scrambled counter = 0x47 ∷ 0x00 ∷ 0x12 ∷ (0x90 + counter) ∷ 0x5A ∷ []

-- every section stays
abbrev same : Edit
same met section = Some section

-- the sections whose fourth byte is 0xAA go
abbrev one_goes : Edit
one_goes met section = if slice_index section 3 == 0xAA then None else Some section

-- two sections that one packet completes leave in one packet
two_in_one : all_given 18 same (begins 5 (one ++ two) ∷ []) ≡ begins 0 (one ++ two ++ replicate 175 0xFF) ∷ []
unfolding given_from given_for sections_of_parts sections_in cut cut_at_most is_whole_in_front first_broken counted payload_start_of payload_of field bit_of next_step missing not_begun
two_in_one = refl

-- where nothing waits a null packet leaves, and its place has no counter
nothing_waits_then :
    all_given 18 same (begins 5 one ∷ goes_on 6 [] ∷ begins 7 two ∷ [])
    ≡ begins 0 (one ++ replicate 179 0xFF) ∷ null_packet ∷ begins 1 (two ++ replicate 179 0xFF) ∷ []
unfolding given_from given_for sections_of_parts sections_in cut cut_at_most is_whole_in_front first_broken counted payload_start_of payload_of field bit_of next_step missing not_begun
nothing_waits_then = refl

-- a scrambled packet passes, with the counter that goes on
scrambled_passes :
    all_given 18 same (begins 5 one ∷ scrambled 6 ∷ begins 6 two ∷ [])
    ≡ begins 0 (one ++ replicate 179 0xFF) ∷ scrambled 1 ∷ begins 2 (two ++ replicate 179 0xFF) ∷ []
unfolding given_from given_for sections_of_parts sections_in cut cut_at_most is_whole_in_front first_broken counted payload_start_of payload_of field bit_of next_step missing not_begun with_counter
scrambled_passes = refl

-- a counter that jumps inside a section loses it
jump_loses :
    all_given 18 same (begins 5 (0x70 ∷ 0x30 ∷ 0x02 ∷ 0xAA ∷ []) ∷ goes_on 7 (0xCC ∷ []) ∷ begins 8 two ∷ [])
    ≡ null_packet ∷ null_packet ∷ begins 0 (two ++ replicate 179 0xFF) ∷ []
unfolding given_from given_for sections_of_parts sections_in cut cut_at_most is_whole_in_front first_broken counted payload_start_of payload_of field bit_of next_step missing not_begun
jump_loses = refl

-- a section that the edit removes leaves no gap
one_removed : all_given 18 one_goes (begins 5 (one ++ two) ∷ []) ≡ begins 0 (two ++ replicate 179 0xFF) ∷ []
unfolding given_from given_for sections_of_parts sections_in cut cut_at_most is_whole_in_front first_broken counted payload_start_of payload_of field bit_of next_step missing not_begun
one_removed = refl

-- a section of 373 bytes leaves in three packets, from the one with which it is complete on; one that is complete by then
-- begins behind it
abbrev long : List ℕ
long = 0x70 ∷ 0x31 ∷ 0x72 ∷ replicate 370 0x01

three_packets :
    all_given 18 same (begins 5 long ∷ goes_on 6 [] ∷ begins 7 two ∷ [])
    ≡ begins 0 (0x70 ∷ 0x31 ∷ 0x72 ∷ replicate 180 0x01) ∷ goes_on 1 (replicate 184 0x01)
    ∷ (0x47 ∷ 0x40 ∷ 0x12 ∷ 0x12 ∷ 0x06 ∷ replicate 6 0x01 ++ two ++ replicate 173 0xFF) ∷ []
unfolding given_from given_for sections_of_parts sections_in cut cut_at_most is_whole_in_front first_broken counted payload_start_of payload_of field bit_of next_step missing not_begun
three_packets = refl

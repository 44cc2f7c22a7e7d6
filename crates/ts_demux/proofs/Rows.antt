-- Worked rows: the definitions computed on short sections over two packets, and on sections of tables.
use Rattle.std.proofs.Common.{◌≡◌, ℕ, true, false, List, [], ◌∷◌, refl}
use Rattle.ts_bit_rows.specs.BitRow.{bit_of, field}
use Rattle.ts_section.specs.FirstBroken.{first_broken}
use Rattle.ts_demux.specs.Part.{Part}
use Rattle.ts_demux.specs.Stretches.{stretches}
use Rattle.ts_demux.specs.Cut.{is_whole_in_front, cut_at_most, cut}
use Rattle.ts_demux.specs.SectionsOfParts.{sections_in, sections_of_parts}
use Rattle.ts_demux.specs.Tables.{era_of, firsts, table_at, tables_after, tables_of}

-- after a pointer 0: the first four bytes of the short section 70 30 02 AA BB
abbrev begun : ℕ → Part
begun counter = record { counter = counter; unit_start = true; payload = 0 ∷ 0x70 ∷ 0x30 ∷ 0x02 ∷ 0xAA ∷ [] }

-- its last byte, and stuffing
abbrev ended : ℕ → Part
ended counter = record { counter = counter; unit_start = false; payload = 0xBB ∷ 0xFF ∷ [] }

-- the section goes on with the next counter, also where the first packet comes twice
over_two_packets : sections_of_parts (begun 3 ∷ begun 3 ∷ ended 4 ∷ []) ≡ (0x70 ∷ 0x30 ∷ 0x02 ∷ 0xAA ∷ 0xBB ∷ []) ∷ []
unfolding sections_of_parts sections_in cut cut_at_most is_whole_in_front first_broken field bit_of
over_two_packets = refl

-- the counter after 15 is 0
after_15 : sections_of_parts (begun 15 ∷ ended 0 ∷ []) ≡ (0x70 ∷ 0x30 ∷ 0x02 ∷ 0xAA ∷ 0xBB ∷ []) ∷ []
unfolding sections_of_parts sections_in cut cut_at_most is_whole_in_front first_broken field bit_of
after_15 = refl

-- over a jump it is given up
over_a_jump : sections_of_parts (begun 3 ∷ ended 5 ∷ []) ≡ []
unfolding sections_of_parts sections_in cut cut_at_most is_whole_in_front first_broken field bit_of
over_a_jump = refl

-- a pointer 1 ends the section with one byte, and a new stretch begins after it
abbrev pointed : Part
pointed = record { counter = 4; unit_start = true; payload = 1 ∷ 0xBB ∷ 0x71 ∷ [] }

between_pointed_places : stretches (begun 3 ∷ pointed ∷ []) ≡ (0x70 ∷ 0x30 ∷ 0x02 ∷ 0xAA ∷ 0xBB ∷ []) ∷ (0x71 ∷ []) ∷ []
between_pointed_places = refl

-- a pointer past the payload is invalid and gives the section up
abbrev invalid : Part
invalid = record { counter = 4; unit_start = true; payload = 2 ∷ 0xBB ∷ [] }

invalid_gives_up : sections_of_parts (begun 3 ∷ invalid ∷ ended 5 ∷ []) ≡ []
unfolding sections_of_parts sections_in cut cut_at_most is_whole_in_front first_broken field bit_of
invalid_gives_up = refl

-- a section of table_id 0x42 and extension 1 with a byte 5 that has its version and whether it is current, with its
-- number, the last one, a body of one byte, and no true CRC, at which tables do not look
abbrev section : ℕ → ℕ → ℕ → ℕ → List ℕ
section byte number last body = 0x42 ∷ 0xB0 ∷ 0x0A ∷ 0 ∷ 1 ∷ byte ∷ number ∷ last ∷ body ∷ 0 ∷ 0 ∷ 0 ∷ 0 ∷ []

-- versions 0 and 1 that are current, and version 0 that is next
abbrev version_0 : ℕ
version_0 = 0xC1

abbrev version_1 : ℕ
version_1 = 0xC3

abbrev next_0 : ℕ
next_0 = 0xC0

-- a table is given once in its era, and a version that comes back begins an era of its own
eras :
    tables_of (section version_0 0 0 7 ∷ section version_0 0 0 7 ∷ section version_1 0 0 8 ∷ section version_0 0 0 7 ∷ [])
    ≡ (section version_0 0 0 7 ∷ []) ∷ (section version_1 0 0 8 ∷ []) ∷ (section version_0 0 0 7 ∷ []) ∷ []
unfolding tables_after table_at era_of firsts field bit_of
eras = refl

-- another last number begins an era too: what was seen of the one before does not count
last_number_changes : tables_of (section version_0 0 1 7 ∷ section version_0 1 2 8 ∷ section version_0 2 2 9 ∷ []) ≡ []
unfolding tables_after table_at era_of firsts field bit_of
last_number_changes = refl

-- the sections of the table that is current and of the next one come in turns
current_and_next :
    tables_of (section version_0 0 1 7 ∷ section next_0 0 1 8 ∷ section version_0 1 1 9 ∷ section next_0 1 1 10 ∷ [])
    ≡ (section version_0 0 1 7 ∷ section version_0 1 1 9 ∷ []) ∷ (section next_0 0 1 8 ∷ section next_0 1 1 10 ∷ []) ∷ []
unfolding tables_after table_at era_of firsts field bit_of
current_and_next = refl

-- of two sections with one number the first is in the table, and the order is that of the numbers
first_of_a_number :
    tables_of (section version_0 1 1 7 ∷ section version_0 1 1 8 ∷ section version_0 0 1 9 ∷ [])
    ≡ (section version_0 0 1 9 ∷ section version_0 1 1 7 ∷ []) ∷ []
unfolding tables_after table_at era_of firsts field bit_of
first_of_a_number = refl

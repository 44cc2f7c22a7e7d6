-- Sections with a wrong CRC: ETSI TR 101 290, 5.2.2 (2.2 CRC_error). What a section is but for its CRC is of ISO/IEC 13818-1,
-- 2.4.4.11; that the CRC of a whole section is 0 of its annex A.
use Rattle.std.specs.Prelude.{ℕ, ◌==◌, Bool, not, ◌&&◌, ◌||◌, nat_le, List, [], ◌∷◌, filter, None, if◌then◌else◌}
use Rattle.std.specs.List.{flat_map, list_any}
use Rattle.ts_section.specs.Crc.{crc_of}
use Rattle.ts_section.specs.SectionFields.{is_long, last_number_of, number_of, section_length_of, table_id_of}
use Rattle.ts_demux.specs.ContinuousRuns.{continuous_runs}
use Rattle.ts_demux.specs.CountedPackets.{counted_packets}
use Rattle.ts_demux.specs.Cut.{cut}
use Rattle.ts_demux.specs.Part.{Part, without_repeats}
use Rattle.ts_demux.specs.Stretches.{stretches}
use Rattle.monitor_crcs.specs.declared.tables.TheConstants.{TOT_ID}

-- the section_number is not above the last one
abbrev pub is_in_order : List ℕ → Bool
is_in_order piece = nat_le (number_of piece) (last_number_of piece)

-- a whole piece of a stretch has a CRC and is right but for that: one of the long form has room for its head and its CRC, and
-- its section_number is not above its last one; a TOT has a CRC also in the short form (ETSI EN 300 468, 5.2.6)
abbrev pub has_crc : List ℕ → Bool
has_crc piece =
    if is_long piece
    then nat_le 9 (section_length_of piece) && is_in_order piece
    else table_id_of piece == TOT_ID

-- it would be a section but for its CRC
unfoldable pub is_spoiled : List ℕ → Bool
is_spoiled piece = has_crc piece && not (crc_of piece == 0)

-- the pieces of a stretch that are so
unfoldable pub spoiled_in : List ℕ → List (List ℕ)
spoiled_in stretch = filter is_spoiled (cut stretch)

-- those of a list of parts, which are cut as for the sections of a PID
unfoldable pub spoiled_of_parts : List Part → List (List ℕ)
spoiled_of_parts parts = flat_map spoiled_in (flat_map stretches (continuous_runs (without_repeats None parts)))

-- those of a PID in a list of packets
abbrev pub spoiled_of_pid : ℕ → List (List ℕ) → List (List ℕ)
spoiled_of_pid pid rows = spoiled_of_parts (counted_packets pid rows)

-- a wrong CRC is an error with these tables: PAT, CAT, PMT, NIT of both networks, SDT of both streams, BAT, EITs and TOT
abbrev pub is_told : ℕ → Bool
is_told table_id =
    list_any (λ n. table_id == n) (0 ∷ 1 ∷ 2 ∷ 64 ∷ 65 ∷ 66 ∷ 70 ∷ 74 ∷ TOT_ID ∷ []) || (nat_le 78 table_id && nat_le table_id 111)

-- ---- what is told

-- the table_id of a piece that is so and with whose table it is an error
unfoldable pub told_piece : List ℕ → List ℕ
told_piece piece = if is_spoiled piece && is_told (table_id_of piece) then table_id_of piece ∷ [] else []

-- those of the pieces of a stretch
unfoldable pub told_in : List ℕ → List ℕ
told_in stretch = flat_map told_piece (cut stretch)

-- those of a list of parts
unfoldable pub told_of_parts : List Part → List ℕ
told_of_parts parts = flat_map told_in (flat_map stretches (continuous_runs (without_repeats None parts)))

-- those of a PID in a list of packets: a line for each
abbrev pub told_of_pid : ℕ → List (List ℕ) → List ℕ
told_of_pid pid rows = told_of_parts (counted_packets pid rows)

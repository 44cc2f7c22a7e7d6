-- The pieces of a stretch, cut from its front by section_length.
-- ISO/IEC 13818-1, 2.4.4.1: sections follow one another, and 0xFF instead of a table_id begins stuffing.
use Rattle.std.specs.Prelude.{ℕ, ◌+◌, ◌==◌, nat_le, Bool, not, ◌&&◌, List, [], ◌∷◌, length, take, drop, zero, suc, if◌then◌else◌}
use Rattle.ts_section.specs.SectionFields.{table_id_of, section_length_of}

-- the size of the section that begins a row of bytes
abbrev pub size_in_front : List ℕ → ℕ
size_in_front b = 3 + section_length_of b

-- whether a whole piece is at the front: its first three bytes are there, it is no stuffing,
-- its section_length is at most 4093, and as many bytes are there
unfoldable pub is_whole_in_front : List ℕ → Bool
is_whole_in_front b =
    nat_le 3 (length b)
    && (not (table_id_of b == 255) && (nat_le (section_length_of b) 4093 && nat_le (size_in_front b) (length b)))

-- at most so many pieces
unfoldable pub cut_at_most : ℕ → List ℕ → List (List ℕ)
cut_at_most zero b = []
cut_at_most (suc more) b =
    if is_whole_in_front b then take (size_in_front b) b ∷ cut_at_most more (drop (size_in_front b) b) else []

-- all pieces; there are no more than bytes
unfoldable pub cut : List ℕ → List (List ℕ)
cut b = cut_at_most (length b) b

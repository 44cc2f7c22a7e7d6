-- The fields of a section.
-- ISO/IEC 13818-1, 2.4.4.10 and 2.4.4.11 (private_section), whose head all tables share.
use Rattle.std.specs.Prelude.{ℕ, ◌+◌, ◌-◌, ◌==◌, Bool, List, length, take, drop, Option, Some, None, if◌then◌else◌}
use Rattle.ts_bit_rows.specs.BitRow.{bit_of, field}
use Rattle.ts_section.specs.declared.long_head.LongHead.{LongHead}
use Rattle.ts_section.specs.declared.section.TheConstants.{LONG_BODY_PLACE, SHORT_BODY_PLACE}

-- table_id
abbrev pub table_id_of : List ℕ → ℕ
table_id_of b = field b 0 8

-- section_syntax_indicator: whether the section is of the long form
abbrev pub is_long : List ℕ → Bool
is_long b = bit_of b 8 == 1

-- the bit after section_syntax_indicator, for private use
abbrev pub private_of : List ℕ → Bool
private_of b = bit_of b 9 == 1

-- section_length: the number of bytes after the field
abbrev pub section_length_of : List ℕ → ℕ
section_length_of b = field b 12 12

-- table_id_extension, in the long form
abbrev pub extension_of : List ℕ → ℕ
extension_of b = field b 24 16

-- version_number, in the long form
abbrev pub version_of : List ℕ → ℕ
version_of b = field b 42 5

-- current_next_indicator, in the long form
abbrev pub current_of : List ℕ → Bool
current_of b = bit_of b 47 == 1

-- section_number, in the long form
abbrev pub number_of : List ℕ → ℕ
number_of b = field b 48 8

-- last_section_number, in the long form
abbrev pub last_number_of : List ℕ → ℕ
last_number_of b = field b 56 8

-- the head of a section of the long form
abbrev pub head_fields : List ℕ → LongHead
head_fields b =
    record {
      table_id = table_id_of b;
      private = private_of b;
      extension = extension_of b;
      version = version_of b;
      current = current_of b;
      number = number_of b;
      last = last_number_of b;
    }

-- the head; none for the short form
abbrev pub head_of : List ℕ → Option LongHead
head_of b = if is_long b then Some (head_fields b) else None

-- the bytes between the head and the CRC; in the short form, those after section_length
abbrev pub body_of : List ℕ → List ℕ
body_of b = if is_long b then drop 8 (take (length b - 4) b) else drop 3 b

-- where the body begins
abbrev pub body_place : List ℕ → ℕ
body_place b = if is_long b then LONG_BODY_PLACE else SHORT_BODY_PLACE

-- the section that a longer row begins with: its first three bytes and section_length more, or all
-- bytes where there are fewer
unfoldable pub front_of : List ℕ → List ℕ
front_of b = take (3 + section_length_of b) b

-- the last four bytes, in the long form the CRC_32
abbrev pub crc_field_of : List ℕ → ℕ
crc_field_of b = field (drop (length b - 4) b) 0 32

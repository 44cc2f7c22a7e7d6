-- The first broken rule of a row of bytes that should be a section.
-- This project's own rule: the order in which the rules of a valid section are checked.
use Rattle.std.specs.Prelude.{ℕ, ◌+◌, ◌-◌, ◌==◌, nat_lt, Bool, List, length, take, Option, Some, None, is_none, if◌then◌else◌}
use Rattle.ts_section.specs.Crc.{crc_of}
use Rattle.ts_section.specs.SectionFields.{table_id_of, is_long, section_length_of, number_of, last_number_of, crc_field_of}
use Rattle.ts_section.specs.declared.fault.SectionFault.{SectionFault}
use Rattle.ts_section.specs.declared.fault.SectionFault.TheVariants.{Short, Invalid, TooLong, BadCrc}
use Rattle.ts_section.specs.declared.fault.SectionRule.TheVariants.{Stuffing, Trailing, ShortLong, Numbers}

-- the first broken rule of a whole section of the long form
unfoldable pub first_broken_long : List ℕ → Option SectionFault
first_broken_long b =
    let wanted = crc_of (take (length b - 4) b) in
    if nat_lt (section_length_of b) 9 then Some (Invalid ShortLong)
    else if nat_lt (last_number_of b) (number_of b) then Some (Invalid Numbers)
    else if wanted == crc_field_of b then None
    else Some (BadCrc wanted (crc_field_of b))

-- the first broken rule, if one is broken
unfoldable pub first_broken : List ℕ → Option SectionFault
first_broken b =
    let wanted = 3 + section_length_of b in
    if nat_lt (length b) 3 then Some (Short 3 (length b))
    else if table_id_of b == 255 then Some (Invalid Stuffing)
    else if nat_lt 4093 (section_length_of b) then Some (TooLong (section_length_of b))
    else if nat_lt (length b) wanted then Some (Short wanted (length b))
    else if nat_lt wanted (length b) then Some (Invalid Trailing)
    else if is_long b then first_broken_long b
    else None

-- whether no rule is broken, so that the row is a valid section
abbrev pub is_section : List ℕ → Bool
is_section b = is_none (first_broken b)

-- ISO/IEC 13818-1, 2.4.3.4 and 2.4.3.5: the adaptation field's length and the flags after it.
use Rattle.std.specs.Prelude.{ℕ, List, Bool, false, ◌==◌, ◌&&◌, nat_le, Option, Some, None, if◌then◌else◌}
use Rattle.ts_bit_rows.specs.BitRow.{field}
use Rattle.ts_packet.specs.Header.{adaptation_control_of}

-- adaptation_field_length where it is valid: 183 without a payload, at most 182 with a payload after the field
abbrev pub valid_length : ℕ → ℕ → Option ℕ
valid_length control len =
    if control == 2 && len == 183 then Some len else (if control == 3 && nat_le len 182 then Some len else None)

-- the valid adaptation field's length, if the packet has one
unfoldable pub adaptation_length_of : List ℕ → Option ℕ
adaptation_length_of row = valid_length (adaptation_control_of row) (field row 32 8)

-- the length is there and is at least this
abbrev pub reaches : Option ℕ → ℕ → Bool
reaches None least = false
reaches (Some len) least = nat_le least len

-- discontinuity_indicator: the first flag of a valid adaptation field that is not empty
unfoldable pub discontinuity_of : List ℕ → Bool
discontinuity_of row = reaches (adaptation_length_of row) 1 && (field row 40 1 == 1)

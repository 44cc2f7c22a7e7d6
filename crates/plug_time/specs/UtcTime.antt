-- UTC_time, and the same so many seconds later.
-- ETSI EN 300 468, 5.2.5 and annex C: the 16 lowest bits of the Modified Julian Date, whose day 0 is 1858-11-17, and then six decimal
-- digits of four bits each for hours, minutes and seconds. That what is no time of day, as an undefined time of ones alone, is not
-- moved, and neither is a time that would leave the 16 bits, is this project's own rule.
use Rattle.std.specs.Prelude.{ℕ, ℤ, pos, negsuc, ◌+ℤ◌, ◌+◌, ◌*◌, ◌/◌, ◌%◌, List, [], ◌∷◌, slice_index, Bool, nat_lt, Option, Some, None, if◌then◌else◌}
use Rattle.std.specs.Option.{option_map}
use Rattle.ts_fields.specs.Times.{is_time}

-- the number that two decimal digits of four bits write
abbrev pub pair_value : ℕ → ℕ
pair_value byte = byte / 16 * 10 + byte % 16

-- the two decimal digits of a number below 100
abbrev pub pair_byte : ℕ → ℕ
pair_byte n = n / 10 * 16 + n % 10

-- the third to the fifth of five bytes are a time of day
abbrev pub is_time_of_day : List ℕ → Bool
is_time_of_day t = is_time 23 (65536 * slice_index t 2 + (256 * slice_index t 3 + slice_index t 4))

-- the seconds from the beginning of 1858-11-17 to the time in five bytes
abbrev pub seconds_of : List ℕ → ℕ
seconds_of t =
    86400 * (256 * slice_index t 0 + slice_index t 1)
    + (3600 * pair_value (slice_index t 2) + (60 * pair_value (slice_index t 3) + pair_value (slice_index t 4)))

-- the five bytes of the time after so many seconds, whose day has 16 bits
abbrev pub time_bytes : ℕ → List ℕ
time_bytes seconds =
    seconds / 86400 / 256 ∷ seconds / 86400 % 256
    ∷ pair_byte (seconds % 86400 / 3600) ∷ pair_byte (seconds % 3600 / 60) ∷ pair_byte (seconds % 60) ∷ []

-- the seconds, where their day has 16 bits: 65536 days of 86400 seconds
abbrev pub if_held : ℤ → Option ℕ
if_held (pos seconds) = if nat_lt seconds 5662310400 then Some seconds else None
if_held (negsuc _) = None

-- the five bytes of the time that is so much later than that of five bytes; none where it is not moved
unfoldable pub later : ℤ → List ℕ → Option (List ℕ)
later shift t =
    if is_time_of_day t then option_map time_bytes (if_held (pos (seconds_of t) +ℤ shift)) else None

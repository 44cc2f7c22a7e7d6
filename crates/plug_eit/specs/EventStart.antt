-- The start of an event, so many seconds later.
-- ETSI EN 300 468, 5.2.4 and annex C: the 16 lowest bits of the Modified Julian Date, and then six decimal digits of four bits
-- each for hours, minutes and seconds; all ones where the start is undefined. That an undefined start stays, and one that
-- would leave the 16 bits of days, is this project's own rule.
use Rattle.std.specs.Prelude.{ℕ, ℤ, pos, ◌+ℤ◌, ◌+◌, ◌*◌, ◌/◌, ◌%◌, ◌==◌, Option, Some, None, unwrap_or, if◌then◌else◌}
use Rattle.std.specs.Option.{option_map}
use Rattle.ts_eit.specs.EventTimes.{time_bits}
use Rattle.plug_time.specs.UtcTime.{if_held, pair_value}

-- the seconds of 24 bits hhmmss
abbrev pub time_seconds : ℕ → ℕ
time_seconds bits = 3600 * pair_value (bits / 65536) + (60 * pair_value (bits / 256 % 256) + pair_value (bits % 256))

-- the seconds from the beginning of 1858-11-17 to a start
abbrev pub start_seconds : ℕ → ℕ
start_seconds bits = 86400 * (bits / 0x1000000) + time_seconds (bits % 0x1000000)

-- the bits of the start after so many seconds
abbrev pub seconds_bits : ℕ → ℕ
seconds_bits seconds = seconds / 86400 * 0x1000000 + time_bits (seconds % 86400)

-- the bits of a start so much later; the same where it is not moved
unfoldable pub later_start : ℤ → ℕ → ℕ
later_start shift bits =
    if bits == 0xFFFFFFFFFF then bits
    else unwrap_or (option_map seconds_bits (if_held (pos (start_seconds bits) +ℤ shift))) bits

-- the same where a shift is given
abbrev pub shifted_start : Option ℤ → ℕ → ℕ
shifted_start None bits = bits
shifted_start (Some shift) bits = later_start shift bits

-- Starts and durations of events as bits.
-- ETSI EN 300 468, 5.2.4: start_time has the last 16 bits of a Modified Julian Date and six decimal digits hhmmss of
-- four bits each, and all ones where it is undefined; duration has six such digits.
use Rattle.std.specs.Prelude.{ℕ, ◌+◌, ◌*◌, ◌/◌, ◌%◌, Option, Some, None}
use Rattle.ts_eit.specs.declared.start.Start.{Start}

-- a number below 100 as two decimal digits of four bits each
unfoldable pub pair_bits : ℕ → ℕ
pair_bits n = n / 10 * 16 + n % 10

-- a number of seconds as hours, minutes and seconds, of two decimal digits each
unfoldable pub time_bits : ℕ → ℕ
time_bits seconds =
    pair_bits (seconds / 3600) * 65536 + (pair_bits (seconds / 60 % 60) * 256 + pair_bits (seconds % 60))

-- a day and a time of day, or all ones
unfoldable pub start_bits : Option Start → ℕ
start_bits None = 0xFFFFFFFFFF
start_bits (Some start) = start.day * 0x1000000 + time_bits start.second

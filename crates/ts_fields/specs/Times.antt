-- Times of six decimal digits, and starts of events.
-- ETSI EN 300 468, 5.2.4: start_time has 16 bits of a day and six decimal digits hhmmss of four bits each,
-- and all ones where it is undefined; duration has six such digits.
use Rattle.std.specs.Prelude.{ℕ, ◌+◌, ◌*◌, ◌/◌, ◌%◌, ◌&&◌, ◌||◌, Bool, nat_eq, nat_le}

-- a byte of two decimal digits, the higher one first, of a number of at most `most`
unfoldable pub is_pair : ℕ → ℕ → Bool
is_pair most byte = nat_le (byte / 16) 9 && (nat_le (byte % 16) 9 && nat_le (byte / 16 * 10 + byte % 16) most)

-- a number of six decimal digits hhmmss, at most `hours` hours, at most 59 minutes and seconds
unfoldable pub is_time : ℕ → ℕ → Bool
is_time hours n = is_pair hours (n / 65536) && (is_pair 59 (n / 256 % 256) && is_pair 59 (n % 256))

-- a number of 40 bits that is a day and a time of day, or all ones
unfoldable pub is_start : ℕ → Bool
is_start n = nat_eq n 0xFFFFFFFFFF || is_time 23 (n % 0x1000000)

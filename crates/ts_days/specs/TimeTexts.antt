-- Times, and starts of events, as texts.
-- This project's own rule: a time is written hh:mm:ss, a start YYYY-MM-DD hh:mm:ss or `undefined`.
use Rattle.std.specs.Prelude.{ℕ, ◌+◌, ◌*◌, ◌/◌, ◌%◌, ◌&&◌, List, [], ◌∷◌, ◌++◌, length, take, drop, slice_index, codes, bytes_eq, nat_eq, Bool, if◌then◌else◌, Option, Some, None}
use Rattle.ts_fields.specs.Times.{is_time}
use Rattle.ts_days.specs.Digits.{digit_at, ◌>>=◌}
use Rattle.ts_days.specs.DayTexts.{day_of, day_text}

-- the byte of a digit of four bits
abbrev pub low_digit : ℕ → ℕ
low_digit n = 48 + n % 16

-- the eight bytes of six decimal digits of four bits each
unfoldable pub time_text : ℕ → List ℕ
time_text n =
    low_digit (n / 0x100000) ∷ low_digit (n / 0x10000) ∷ 58
    ∷ low_digit (n / 0x1000) ∷ low_digit (n / 0x100) ∷ 58
    ∷ low_digit (n / 0x10) ∷ low_digit n ∷ []

-- eight bytes, with a colon after hours and minutes
abbrev pub has_colons : List ℕ → Bool
has_colons text = nat_eq (length text) 8 && (nat_eq (slice_index text 2) 58 && nat_eq (slice_index text 5) 58)

-- the six digits of a text, four bits each
unfoldable pub digits_written : List ℕ → Option ℕ
digits_written text = do
  a ← digit_at text 0
  b ← digit_at text 1
  c ← digit_at text 3
  d ← digit_at text 4
  e ← digit_at text 6
  f ← digit_at text 7
  Some (0x100000 * a + 0x10000 * b + 0x1000 * c + 0x100 * d + 0x10 * e + f)

-- the time that a text writes, with hours up to this bound
unfoldable pub time_of : ℕ → List ℕ → Option ℕ
time_of hours text = if has_colons text then (do
  n ← digits_written text
  if is_time hours n then Some n else None) else None

-- the text of a start, which is undefined where its 40 bits are ones
unfoldable pub start_text : ℕ → List ℕ
start_text n =
    if nat_eq n 0xFFFFFFFFFF then codes "undefined"
    else day_text (n / 0x1000000 % 0x10000) ++ (codes " " ++ time_text n)

-- the start of the day and the time that a text writes
unfoldable pub moment_of : List ℕ → Option ℕ
moment_of text = do
  day ← day_of (take 10 text)
  time ← time_of 23 (drop 11 text)
  Some (0x1000000 * day + time)

-- the start that a text writes
unfoldable pub start_of : List ℕ → Option ℕ
start_of text =
    if bytes_eq text (codes "undefined") then Some 0xFFFFFFFFFF
    else if nat_eq (length text) 19 && nat_eq (slice_index text 10) 32 then moment_of text
    else None

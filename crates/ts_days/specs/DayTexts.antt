-- Days as texts.
-- This project's own rule: a day is written YYYY-MM-DD.
use Rattle.std.specs.Prelude.{ℕ, ◌+◌, ◌*◌, ◌/◌, ◌&&◌, List, [], ◌∷◌, length, slice_index, nat_eq, Bool, if◌then◌else◌, Option, Some, None}
use Rattle.ts_days.specs.declared.calendar.Day.{Day}
use Rattle.ts_days.specs.Digits.{digit_at, last_digit, ◌>>=◌}
use Rattle.ts_days.specs.Calendar.{number_of_day, day_numbered}

-- the ten bytes of a day
abbrev pub text_of_day : Day → List ℕ
text_of_day d =
    last_digit (d.year / 1000) ∷ last_digit (d.year / 100) ∷ last_digit (d.year / 10) ∷ last_digit d.year ∷ 45
    ∷ last_digit (d.month / 10) ∷ last_digit d.month ∷ 45
    ∷ last_digit (d.day / 10) ∷ last_digit d.day ∷ []

-- ten bytes, with a hyphen after year and month
abbrev pub has_hyphens : List ℕ → Bool
has_hyphens text =
    nat_eq (length text) 10 && (nat_eq (slice_index text 4) 45 && nat_eq (slice_index text 7) 45)

-- the year, month and day that the digits of a text write
unfoldable pub day_written : List ℕ → Option Day
day_written text = do
  a ← digit_at text 0
  b ← digit_at text 1
  c ← digit_at text 2
  d ← digit_at text 3
  e ← digit_at text 5
  f ← digit_at text 6
  g ← digit_at text 8
  h ← digit_at text 9
  Some (record { year = 1000 * a + 100 * b + 10 * c + d; month = 10 * e + f; day = 10 * g + h })

-- the number of the day that a text writes
unfoldable pub day_of : List ℕ → Option ℕ
day_of text = if has_hyphens text then (do
  d ← day_written text
  number_of_day d) else None

-- the text of the day with a number
unfoldable pub day_text : ℕ → List ℕ
day_text number = text_of_day (day_numbered number)

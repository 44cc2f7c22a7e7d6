-- Worked rows: the definitions computed.
use Rattle.std.proofs.Common.{◌≡◌, refl}
use Rattle.std.specs.Prelude.{codes, Some, None}
use Rattle.ts_days.specs.Calendar.{years_length, months_length, days_before, number_of_day, day_of_month, day_of_year}
use Rattle.ts_days.specs.DayTexts.{day_written, day_of, day_text}
use Rattle.ts_days.specs.TimeTexts.{time_text, digits_written, time_of, moment_of, start_text, start_of}
use Rattle.ts_fields.specs.Times.{is_pair, is_time}

-- ETSI EN 300 468, annex C: 1982-09-06 is day 45218; day 40587 is 1970-01-01
annex-row : day_of (codes "1982-09-06") ≡ Some 45218
unfolding day_of day_written number_of_day days_before years_length months_length
annex-row = refl

epoch-row : day_text 40587 ≡ codes "1970-01-01"
unfolding day_text day_of_year day_of_month
epoch-row = refl

-- the first and the last day of 16 bits
first-row : day_text 0 ≡ codes "1858-11-17"
unfolding day_text day_of_year day_of_month
first-row = refl

last-row : day_text 65535 ≡ codes "2038-04-22"
unfolding day_text day_of_year day_of_month
last-row = refl

-- 1900 is not a leap year, 2000 is one
century-row : day_of (codes "1900-02-29") ≡ None
unfolding day_of day_written number_of_day days_before years_length months_length
century-row = refl

leap-row : day_text 51603 ≡ codes "2000-02-29"
unfolding day_text day_of_year day_of_month
leap-row = refl

-- the day before the first, and the day after the last
before-row : day_of (codes "1858-11-16") ≡ None
unfolding day_of day_written number_of_day days_before years_length months_length
before-row = refl

behind-row : day_of (codes "2038-04-23") ≡ None
unfolding day_of day_written number_of_day days_before years_length months_length
behind-row = refl

-- ETSI EN 300 468, 5.2.4: 93/10/13 12:45:00 is coded C079124500
start-row : start_text 0xC079124500 ≡ codes "1993-10-13 12:45:00"
unfolding start_text day_text day_of_year day_of_month time_text
start-row = refl

read-row : start_of (codes "1993-10-13 12:45:00") ≡ Some 0xC079124500
unfolding start_of moment_of time_of digits_written is_time is_pair day_of day_written number_of_day days_before years_length months_length
read-row = refl

undefined-row : start_text 0xFFFFFFFFFF ≡ codes "undefined"
unfolding start_text
undefined-row = refl

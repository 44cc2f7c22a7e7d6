-- The calendar, and the numbers of its days.
-- ETSI EN 300 468, 5.2.4 and annex C: a day is given by the last 16 bits of its Modified Julian Date, in which
-- 1858-11-17 is day 0.
use Rattle.std.specs.Prelude.{ℕ, suc, zero, ◌+◌, ◌-◌, ◌%◌, ◌&&◌, ◌||◌, Bool, not, nat_eq, nat_le, nat_lt, if◌then◌else◌, Option, Some, None}
use Rattle.ts_days.specs.declared.calendar.Day.{Day}

-- every fourth year is a leap year, but of the full centuries only every fourth
abbrev pub is_leap_year : ℕ → Bool
is_leap_year year = nat_eq (year % 4) 0 && (not (nat_eq (year % 100) 0) || nat_eq (year % 400) 0)

-- the number of days in a year
abbrev pub year_length : ℕ → ℕ
year_length year = if is_leap_year year then 366 else 365

-- the number of days in a month: thirty in April, June, September and November
abbrev pub month_length : ℕ → ℕ → ℕ
month_length year month =
    if nat_eq month 2 then (if is_leap_year year then 29 else 28)
    else if nat_eq month 4 || nat_eq month 6 || nat_eq month 9 || nat_eq month 11 then 30
    else 31

-- the calendar has this day
abbrev pub is_day : Day → Bool
is_day d =
    nat_le 1 d.month && (nat_le d.month 12 && (nat_le 1 d.day && nat_le d.day (month_length d.year d.month)))

-- the number of days in so many years, the first of which is this one
unfoldable pub years_length : ℕ → ℕ → ℕ
years_length first zero = 0
years_length first (suc count) = year_length first + years_length (first + 1) count

-- the number of days in so many months of a year, the first of which is this one
unfoldable pub months_length : ℕ → ℕ → ℕ → ℕ
months_length year first zero = 0
months_length year first (suc count) = month_length year first + months_length year (first + 1) count

-- the number of days from 1858-01-01 to a day on or after it
unfoldable pub days_before : Day → ℕ
days_before d = years_length 1858 (d.year - 1858) + (months_length d.year 1 (d.month - 1) + (d.day - 1))

-- the number of a day of the calendar, where it has 16 bits; 1858-11-17 is the 321st day of its year
unfoldable pub number_of_day : Day → Option ℕ
number_of_day d =
    if is_day d && (nat_le 1858 d.year && (nat_le 320 (days_before d) && nat_lt (days_before d) 65856)) then
    Some (days_before d - 320) else None

-- the day so many days after the first of a month; no year has more than 12 months
unfoldable pub day_of_month : ℕ → ℕ → ℕ → ℕ → Day
day_of_month zero year month days = record { year = year; month = month; day = days + 1 }
day_of_month (suc most) year month days =
    if nat_lt days (month_length year month) then record { year = year; month = month; day = days + 1 }
    else day_of_month most year (month + 1) (days - month_length year month)

-- the day so many days after the first of a year, which is at most so many years later
unfoldable pub day_of_year : ℕ → ℕ → ℕ → Day
day_of_year zero year days = day_of_month 12 year 1 days
day_of_year (suc most) year days =
    if nat_lt days (year_length year) then day_of_month 12 year 1 days
    else day_of_year most (year + 1) (days - year_length year)

-- the day of the calendar with a number of 16 bits; the last one is 2038-04-22
abbrev pub day_numbered : ℕ → Day
day_numbered number = day_of_year 181 1858 (number + 320)

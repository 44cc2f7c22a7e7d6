-- Days and their numbers, by the day counts of `jiff`.
use Rattle.std.proofs.Common.{◌≡◌, ℕ, zero, suc, ◌+◌, ◌-◌, ◌<◌, ◌≤◌, ◌⊎◌, inl, inr, Bool, true, false, nat_lt, nat_le, refl, sym, ap, ◌∙◌, arith, lit<, add-zero, ℤ, pos, negsuc, ◌-ℤ◌, unsigned_abs, ◌+ℤ◌, ◌≤ℤ◌, ◌<ℤ◌, w64, FitsSigned, to_z, of_z}
use Rattle.std.specs.Prelude.{◌&&◌, if◌then◌else◌, Option, Some, None, IfSome, IfNone}
use Rattle.std.proofs.lemmas.Bool.{lt-ltb, ltb-true, ltb-false, le-leb, leb-true, lt-leb, le-ltb}
use Rattle.std.proofs.lemmas.Int.{by_lt_z}
use Rattle.std.proofs.Math.Facts.{to_z-of_z}
use Rattle.jiff_core.specs.Calendar.{days_of_months, day_count, days_from_civil, IsDate, IsCivilDate}
use Rattle.jiff_core.proofs.SignedLemmas.{signed_arith}
use Rattle.jiff_core.proofs.CalendarLemmas.{day_count-epoch, days_from_civil-day_count, days_of_months-zero, days_of_months_more, days_of_months_all, days_of_months_mono, day_count-day_of_year, day_count-next_year, day_count-lt_year}
use Rattle.ts_days.specs.declared.calendar.Day.{Day}
use Rattle.ts_days.specs.Calendar as calendar
use Rattle.ts_days.specs.Calendar.{year_length, month_length, is_day, years_length, months_length, days_before, number_of_day, day_of_month, day_numbered}

pub both : (a b : Bool) → (a && b) ≡ true → (a ≡ true) × (b ≡ true)
both true b is = (refl, is)
both false b is = cc

-- so many years begin so many days later
years : (count first : ℕ) → day_count (pos (first + count)) 1 1 ≡ day_count (pos first) 1 1 + years_length first count
unfolding years_length
years zero first = ap (λ n. day_count (pos n) 1 1) (add-zero first) ∙ sym (add-zero _)
years (suc count) first =
    let shift : first + suc count ≡ first + 1 + count = omega arith in
    let next : day_count (pos (first + 1)) 1 1 ≡ day_count (pos first) 1 1 + year_length first = day_count-next_year (pos first) (pos (first + 1)) (omega (arith, signed_arith)) (omega (arith, signed_arith)) in
    let step : day_count (pos (first + 1)) 1 1 + years_length (first + 1) count ≡ day_count (pos first) 1 1 + (year_length first + years_length (first + 1) count) = omega (arith, next) in
    ap (λ n. day_count (pos n) 1 1) shift ∙ years count (first + 1) ∙ step

-- so many months begin so many days later
months : (count first year : ℕ) → days_of_months (pos year) (first + count) ≡ days_of_months (pos year) first + months_length year (first + 1) count
unfolding months_length
months zero first year = ap (days_of_months (pos year)) (add-zero first) ∙ sym (add-zero _)
months (suc count) first year =
    let shift : first + suc count ≡ first + 1 + count = omega arith in
    let back : first + 1 - 1 ≡ first = omega arith in
    let more : days_of_months (pos year) (first + 1) ≡ days_of_months (pos year) (first + 1 - 1) + month_length year (first + 1) = days_of_months_more (pos year) (first + 1) (omega arith) in
    let next : days_of_months (pos year) (first + 1) ≡ days_of_months (pos year) first + month_length year (first + 1) = more ∙ ap (λ n. days_of_months (pos year) n + month_length year (first + 1)) back in
    let step : days_of_months (pos year) (first + 1) + months_length year (first + 1 + 1) count ≡ days_of_months (pos year) first + (month_length year (first + 1) + months_length year (first + 1 + 1) count) = omega (arith, next) in
    ap (days_of_months (pos year)) shift ∙ months count (first + 1) year ∙ step

first_months : (count year : ℕ) → days_of_months (pos year) count ≡ months_length year 1 count
first_months count year =
    let none : days_of_months (pos year) 0 ≡ 0 = days_of_months-zero (pos year) in
    let zero_left : 0 + count ≡ count = omega arith in
    let all : days_of_months (pos year) count ≡ days_of_months (pos year) 0 + months_length year 1 count = rw zero_left at (months count 0 year) in
    omega (arith, all, none)

-- twelve months are a year
twelve : (year : ℕ) → months_length year 1 12 ≡ year_length year
twelve year = sym (first_months 12 year) ∙ days_of_months_all (pos year)

begin : day_count (pos 1858) 1 1 + 40907 ≡ 4371953
unfolding years_length
begin = let e : day_count (pos 1970) 1 1 ≡ day_count (pos 1858) 1 1 + years_length 1858 112 = years 112 1858 in sym e ∙ day_count-epoch

-- what `jiff` counts to a day
counted : (year month day : ℕ) → 1858 ≤ year → 1 ≤ day
    → day_count (pos year) month day ≡ day_count (pos 1858) 1 1 + days_before (record { year = year; month = month; day = day })
unfolding days_before
counted year month day late some =
    let shift : 1858 + (year - 1858) ≡ year = omega arith in
    let begins : day_count (pos year) 1 1 ≡ day_count (pos 1858) 1 1 + years_length 1858 (year - 1858) = sym (ap (λ n. day_count (pos n) 1 1) shift) ∙ years (year - 1858) 1858 in
    let inside : day_count (pos year) month day + 1 ≡ day_count (pos year) 1 1 + (days_of_months (pos year) (month - 1) + day) = day_count-day_of_year (pos year) month day some in
    omega (arith, begins, inside, first_months (month - 1) year)

pub epoch_of : (year month day : ℕ) → 1858 ≤ year → 1 ≤ day
    → days_from_civil (pos year) month day +ℤ pos 40907 ≡ pos (days_before (record { year = year; month = month; day = day }))
epoch_of year month day late some =
    omega (arith, signed_arith, days_from_civil-day_count (pos year) month day, counted year month day late some, begin)

-- ---- the number of a day

pub valid : (d : Day) → is_day d ≡ true → (1 ≤ d.month) × (d.month ≤ 12) × (1 ≤ d.day) × (d.day ≤ month_length d.year d.month)
valid d is =
    let a = both (nat_le 1 d.month) _ is in
    let b = both (nat_le d.month 12) _ a.1 in
    let e = both (nat_le 1 d.day) (nat_le d.day (month_length d.year d.month)) b.1 in
    (leb-true _ _ a.0, leb-true _ _ b.0, leb-true _ _ e.0, leb-true _ _ e.1)

is_valid : (d : Day) → 1 ≤ d.month → d.month ≤ 12 → 1 ≤ d.day → d.day ≤ month_length d.year d.month → is_day d ≡ true
is_valid d a b e f = rw (le-leb _ _ a, le-leb _ _ b, le-leb _ _ e, le-leb _ _ f) refl

-- the dates that `jiff` has are these
pub date_is_day : (d : Day) → IsDate (pos d.year) (pos d.month) (pos d.day) → is_day d ≡ true
date_is_day d h =
    is_valid d (omega (arith, signed_arith, h.1.0)) (omega (arith, signed_arith, h.1.1)) (omega (arith, signed_arith, h.2.0)) (omega (arith, signed_arith, h.2.1))

pub day_is_date : (d : Day) → d.year ≤ 9999 → is_day d ≡ true → IsDate (pos d.year) (pos d.month) (pos d.day)
day_is_date d small is =
    let l = valid d is in
    ((omega (arith, signed_arith), omega (arith, signed_arith)), (omega (arith, signed_arith, l.0), omega (arith, signed_arith, l.1)), (omega (arith, signed_arith, l.2), omega (arith, signed_arith, l.3)))

pub early : (d : Day) → d.year < 1858 → None ≡ number_of_day d
unfolding number_of_day
early d less = let test = lt-leb 1858 d.year less in grind arith

pub no_day : (d : Day) → (is_day d ≡ true → ⊥) → None ≡ number_of_day d
unfolding number_of_day
no_day d never = go (is_day d) refl
  where
    go : (b : Bool) → is_day d ≡ b → None ≡ (if b && (nat_le 1858 d.year && (nat_le 320 (days_before d) && nat_lt (days_before d) 65856)) then Some (days_before d - 320) else None)
    go true is = absurd (never is)
    go false is = refl

numbered : (d : Day) → is_day d ≡ true → 1858 ≤ d.year → (n : ℕ) → days_before d ≡ n + 320 → n < 65536 → Some n ≡ number_of_day d
unfolding number_of_day
numbered d is late n same small =
    let least = le-leb 320 (days_before d) (omega arith) in
    let most = lt-ltb (days_before d) 65856 (omega arith) in
    let back : n ≡ days_before d - 320 = omega arith in
    rw (is, le-leb 1858 d.year late, least, most) (ap Some back)

outside : (d : Day) → is_day d ≡ true → 1858 ≤ d.year → (days_before d < 320) ⊎ (65856 ≤ days_before d) → None ≡ number_of_day d
unfolding number_of_day
outside d is late (inl less) = rw (is, le-leb 1858 d.year late, lt-leb 320 (days_before d) less) refl
outside d is late (inr more) =
    rw (is, le-leb 1858 d.year late, le-leb 320 (days_before d) (omega arith), le-ltb (days_before d) 65856 more) refl

-- what the code finds for a day with this day count of `jiff`
pub found : (d : Day) (e : ℤ) (r : Option ℕ) → is_day d ≡ true → 1858 ≤ d.year → e ≡ days_from_civil (pos d.year) d.month d.day
    → IfSome r (λ n. (pos n ≡ e +ℤ pos 40587) × (n < 65536)) → IfNone r (((e +ℤ pos 40587) <ℤ pos 0) ⊎ (pos 65535 <ℤ (e +ℤ pos 40587)))
    → r ≡ number_of_day d
found d e (Some n) is late same some none =
    let at : e +ℤ pos 40907 ≡ pos (days_before d) = ap (λ z. z +ℤ pos 40907) same ∙ epoch_of d.year d.month d.day late (valid d is).2 in
    numbered d is late n (omega (arith, signed_arith, at, some.0)) some.1
found d e None is late same some (inl less) =
    let at : e +ℤ pos 40907 ≡ pos (days_before d) = ap (λ z. z +ℤ pos 40907) same ∙ epoch_of d.year d.month d.day late (valid d is).2 in
    outside d is late (inl (omega (arith, signed_arith, at, less)))
found d e None is late same some (inr more) =
    let at : e +ℤ pos 40907 ≡ pos (days_before d) = ap (λ z. z +ℤ pos 40907) same ∙ epoch_of d.year d.month d.day late (valid d is).2 in
    outside d is late (inr (omega (arith, signed_arith, at, more)))

-- ---- the day of a number

-- so many months on
month_walk : (most first k year day : ℕ) → 1 ≤ day → day ≤ month_length year (first + k) → k ≤ most
    → day_of_month most year first (months_length year first k + (day - 1)) ≡ record { year = year; month = first + k; day = day }
unfolding day_of_month months_length
month_walk zero first zero year day some inside few =
    let e : 0 + (day - 1) + 1 ≡ day = omega arith in
    let z : first ≡ first + 0 = omega arith in
    rw (e, ← z) refl
month_walk zero first (suc k) year day some inside few = absurd (omega arith)
month_walk (suc most) first zero year day some inside few =
    let z : first + 0 ≡ first = omega arith in
    let short : day ≤ month_length year first = rw z at inside in
    let e : 0 + (day - 1) + 1 ≡ day = omega arith in
    let test = lt-ltb (0 + (day - 1)) (month_length year first) (omega (arith, short)) in
    rw (test, e, z) refl
month_walk (suc most) first (suc k) year day some inside few =
    let shift : first + suc k ≡ first + 1 + k = omega arith in
    let short : day ≤ month_length year (first + 1 + k) = rw shift at inside in
    let test = le-ltb (month_length year first + months_length year (first + 1) k + (day - 1)) (month_length year first) (omega arith) in
    let less : month_length year first + months_length year (first + 1) k + (day - 1) - month_length year first ≡ months_length year (first + 1) k + (day - 1) = omega arith in
    rw (test, less, shift) (month_walk most (first + 1) k year day some short (omega arith))

-- the days of a year before a day in it are fewer than the year's
in_year : (d : Day) → is_day d ≡ true → months_length d.year 1 (d.month - 1) + (d.day - 1) < year_length d.year
in_year d is =
    let l = valid d is in
    let more : days_of_months (pos d.year) d.month ≡ days_of_months (pos d.year) (d.month - 1) + month_length d.year d.month = days_of_months_more (pos d.year) d.month l.0 in
    let order : days_of_months (pos d.year) d.month ≤ days_of_months (pos d.year) 12 = days_of_months_mono (pos d.year) d.month 12 l.1 in
    let all : days_of_months (pos d.year) 12 ≡ year_length d.year = days_of_months_all (pos d.year) in
    omega (arith, more, order, all, first_months (d.month - 1) d.year, l.2, l.3)

month_found : (d : Day) → is_day d ≡ true → day_of_month 12 d.year 1 (months_length d.year 1 (d.month - 1) + (d.day - 1)) ≡ d
month_found d is =
    let l = valid d is in
    let z : 1 + (d.month - 1) ≡ d.month = omega (arith, l.0) in
    let inside : d.day ≤ month_length d.year (1 + (d.month - 1)) = rw z l.3 in
    month_walk 12 1 (d.month - 1) d.year d.day l.2 inside (omega (arith, l.1)) ∙ ap (λ m. record { year = d.year; month = m; day = d.day }) z

-- so many years on
year_walk : (most first k : ℕ) (d : Day) → is_day d ≡ true → d.year ≡ first + k → k ≤ most
    → calendar.day_of_year most first (years_length first k + (months_length d.year 1 (d.month - 1) + (d.day - 1))) ≡ d
unfolding calendar.day_of_year years_length
year_walk zero first zero d is at few =
    let z : first ≡ d.year = omega (arith, at) in
    let e : 0 + (months_length d.year 1 (d.month - 1) + (d.day - 1)) ≡ months_length d.year 1 (d.month - 1) + (d.day - 1) = omega arith in
    rw (e, z) (month_found d is)
year_walk zero first (suc k) d is at few = absurd (omega arith)
year_walk (suc most) first zero d is at few =
    let z : first ≡ d.year = omega (arith, at) in
    let e : 0 + (months_length d.year 1 (d.month - 1) + (d.day - 1)) ≡ months_length d.year 1 (d.month - 1) + (d.day - 1) = omega arith in
    let test = lt-ltb (months_length d.year 1 (d.month - 1) + (d.day - 1)) (year_length d.year) (in_year d is) in
    rw (e, z, test) (month_found d is)
year_walk (suc most) first (suc k) d is at few =
    let rest = months_length d.year 1 (d.month - 1) + (d.day - 1) in
    let test = le-ltb (year_length first + years_length (first + 1) k + rest) (year_length first) (omega arith) in
    let less : year_length first + years_length (first + 1) k + rest - year_length first ≡ years_length (first + 1) k + rest = omega arith in
    rw (test, less) (year_walk most (first + 1) k d is (omega (arith, at)) (omega arith))

-- the day with so many days before it is the one with that number
pub told : (d : Day) (n : ℕ) → is_day d ≡ true → 1858 ≤ d.year → d.year ≤ 2039 → days_before d ≡ n + 320 → d ≡ day_numbered n
unfolding days_before
told d n is late soon same =
    sym (year_walk 181 1858 (d.year - 1858) d is (omega arith) (omega arith)) ∙ ap (calendar.day_of_year 181 1858) same

-- the date of `jiff` with the same parts has the same day count
pub same_date : (d : Day) (year : ℤ) (month day : ℕ) → year ≡ pos d.year → pos month ≡ pos d.month → pos day ≡ pos d.day
    → days_from_civil year month day ≡ days_from_civil (pos d.year) d.month d.day
same_date d year month day a b e =
    let m : month ≡ d.month = cc in
    let n : day ≡ d.day = cc in
    rw (a, m, n) refl

-- ---- each number is that of some day

record SomeDay (days most first : ℕ) : Type 0 where
  day : Day
  on : ℕ
  at : day.year ≡ first + on
  few : on ≤ most
  valid_day : is_day day ≡ true
  same : days ≡ years_length first on + (months_length day.year 1 (day.month - 1) + (day.day - 1))

record SomeMonth (days most first year : ℕ) : Type 0 where
  day : ℕ
  on : ℕ
  few : on < most
  some : 1 ≤ day
  inside : day ≤ month_length year (first + on)
  same : days ≡ months_length year first on + (day - 1)

by_order : {P : Type 0} (a b : ℕ) → (a < b → P) → (b ≤ a → P) → P
by_order {P} a b less more = go (nat_lt a b) refl
  where
    go : (t : Bool) → nat_lt a b ≡ t → P
    go true is = less (ltb-true a b is)
    go false is = more (ltb-false a b is)

some_month : (most first days year : ℕ) → days < months_length year first most → SomeMonth days most first year
unfolding months_length
some_month zero first days year less = absurd (omega arith)
some_month (suc most) first days year less = by_order days (month_length year first)
    (λ short. record {
      day = days + 1;
      on = 0;
      few = omega arith;
      some = omega arith;
      inside = let z : first + 0 ≡ first = omega arith in rw z (omega arith);
      same = omega arith;
    })
    (λ long.
    let rest = some_month most (first + 1) (days - month_length year first) year (omega arith) in
    let shift : first + suc rest.on ≡ first + 1 + rest.on = omega arith in
    record {
      day = rest.day;
      on = suc rest.on;
      few = omega (arith, rest.few);
      some = rest.some;
      inside = rw shift rest.inside;
      same = omega (arith, rest.same);
    })

first_year : (most first days : ℕ) → days < year_length first → SomeDay days most first
unfolding years_length
first_year most first days short =
    let month = some_month 12 1 days first (omega (arith, twelve first)) in
    let d : Day = record { year = first; month = 1 + month.on; day = month.day } in
    let back : 1 + month.on - 1 ≡ month.on = omega arith in
    record {
      day = d;
      on = 0;
      at = omega arith;
      few = omega arith;
      valid_day = is_valid d (omega arith) (omega (arith, month.few)) month.some month.inside;
      same = rw back (omega (arith, month.same));
    }

some_day : (most first days : ℕ) → days < years_length first (suc most) → SomeDay days most first
unfolding years_length
some_day zero first days less = by_order days (year_length first) (first_year zero first days) (λ long. absurd (omega arith))
some_day (suc most) first days less = by_order days (year_length first) (first_year (suc most) first days) (λ long.
    let rest = some_day most (first + 1) (days - year_length first) (omega arith) in
    record {
      day = rest.day;
      on = suc rest.on;
      at = omega (arith, rest.at);
      few = omega (arith, rest.few);
      valid_day = rest.valid_day;
      same = omega (arith, rest.same);
    })

centuries : 65856 < years_length 1858 182
unfolding years_length
centuries = lit< tt

-- a day with a number of 16 bits
pub record Told (n : ℕ) : Type 0 where
  pub day : Day
  pub tells : day ≡ day_numbered n
  pub valid_day : is_day day ≡ true
  pub year : day.year ≤ 9999
  pub number : number_of_day day ≡ Some n

pub every_number : (n : ℕ) → n < 65536 → Told n
unfolding days_before
every_number n small =
    let s = some_day 181 1858 (n + 320) (omega (arith, centuries)) in
    let on_is : s.day.year - 1858 ≡ s.on = omega (arith, s.at) in
    let same : days_before s.day ≡ n + 320 = rw on_is (sym s.same) in
    let late : 1858 ≤ s.day.year = omega (arith, s.at) in
    record {
      day = s.day;
      tells = told s.day n s.valid_day late (omega (arith, s.at, s.few)) same;
      valid_day = s.valid_day;
      year = omega (arith, s.at, s.few);
      number = sym (numbered s.day s.valid_day late n same small);
    }

-- ---- the date of `jiff` with a number of 16 bits

late_years : years_length 1858 181 ≡ 66109
unfolding years_length
late_years = refl

year_bounds : (year : ℤ) (month day n : ℕ) → IsCivilDate year month day → n < 65536
    → days_from_civil year month day +ℤ pos 40587 ≡ pos n → (pos 1858 ≤ℤ year) × (year ≤ℤ pos 2039)
year_bounds year month day n date small is =
    let count = days_from_civil-day_count year month day in
    let last : day_count (pos 2039) 1 1 ≡ day_count (pos 1858) 1 1 + years_length 1858 181 = years 181 1858 in
    let first_date : IsCivilDate (pos 2039) 1 1 = ((omega (arith, signed_arith), omega (arith, signed_arith)), (omega arith, omega arith), (omega arith, omega arith)) in
    let least : year <ℤ pos 1858 → day_count year month day < day_count (pos 1858) 1 1 = day_count-lt_year year month day (pos 1858) 1 1 date (omega arith) in
    let most : pos 2039 <ℤ year → day_count (pos 2039) 1 1 < day_count year month day = day_count-lt_year (pos 2039) 1 1 year month day first_date date.2.0 in (
      by_lt_z year (pos 1858) (λ less. absurd (omega (arith, signed_arith, is, count, begin, least less))) (λ more. more),
      by_lt_z (pos 2039) year (λ less. absurd (omega (arith, signed_arith, is, count, begin, last, late_years, most less))) (λ more. more),
    )

pub day_found : (year : ℤ) (month day n : ℕ) → IsCivilDate year month day → n < 65536
    → days_from_civil year month day +ℤ pos 40587 ≡ pos n
    → (pos 0 ≤ℤ year) × (year ≤ℤ pos 2039) × (unsigned_abs year ≤ 2039) × (record { year = unsigned_abs year; month = month; day = day } ≡ day_numbered n)
day_found (negsuc y) month day n date small is =
    let bounds = year_bounds (negsuc y) month day n date small is in absurd (omega (arith, signed_arith, bounds.0))
day_found (pos y) month day n date small is =
    let bounds = year_bounds (pos y) month day n date small is in
    let d : Day = record { year = y; month = month; day = day } in
    let late : 1858 ≤ y = omega (arith, signed_arith, bounds.0) in
    let same : days_before d ≡ n + 320 = omega (arith, signed_arith, is, epoch_of y month day late date.2.0) in
    (omega (arith, signed_arith), bounds.1, omega (arith, signed_arith, bounds.1), told d n (is_valid d date.1.0 date.1.1 date.2.0 date.2.1) late (omega (arith, signed_arith, bounds.1)) same)

-- what the code computes of a number
pub epoch_day_is : (n : ℕ) (e x y : ℤ) → n < 65536 → x ≡ pos n → y ≡ pos 40587
    → e ≡ to_z w64 (of_z w64 (to_z w64 (of_z w64 x) -ℤ to_z w64 (of_z w64 y))) → e +ℤ pos 40587 ≡ pos n
epoch_day_is n e x y small x_is y_is is =
    let fit_x : FitsSigned w64 x = omega (arith, signed_arith) in
    let fit_y : FitsSigned w64 y = omega (arith, signed_arith) in
    let fit : FitsSigned w64 (x -ℤ y) = omega (arith, signed_arith) in
    let plain : e ≡ x -ℤ y = rw (to_z-of_z fit_x, to_z-of_z fit_y, to_z-of_z fit) at is in
    omega (arith, signed_arith, plain)

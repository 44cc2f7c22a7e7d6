-- Texts of days and times, and the numbers that they give.
use Rattle.std.proofs.Common.{◌≡◌, ℕ, ◌+◌, ◌-◌, ◌*◌, ◌/◌, ◌%◌, ◌^◌, ◌<◌, ◌≤◌, Bool, true, false, List, ◌∷◌, ◌++◌, length, take, drop, nat_le, nat_eq, refl, sym, ap, ◌∙◌, arith}
use Rattle.std.specs.Prelude.{◌&&◌, ◌||◌, if◌then◌else◌, Some, slice_index, bytes_eq, codes}
use Rattle.std.proofs.lemmas.Bool.{le-leb, leb-true, eqb-true, ne_eqb}
use Rattle.ts_fields.specs.Times.{is_pair, is_time, is_start}
use Rattle.ts_days.specs.declared.calendar.Day.{Day}
use Rattle.ts_days.specs.Calendar.{month_length, day_numbered}
use Rattle.ts_days.specs.Digits.{digit_at, last_digit}
use Rattle.ts_days.specs.DayTexts.{text_of_day, day_written, day_of, day_text}
use Rattle.ts_days.specs.TimeTexts.{time_text, digits_written, time_of, start_text, moment_of, start_of}
use Rattle.ts_days.proofs.CalendarLemmas.{both, every_number, valid}

-- a digit of a number below ten
digit_there : (text : List ℕ) (place n : ℕ) → slice_index text place ≡ 48 + n → n ≤ 9 → digit_at text place ≡ Some n
digit_there text place n is small =
    let least = le-leb 48 (48 + n) (omega arith) in
    let most = le-leb (48 + n) 57 (omega arith) in
    let back : 48 + n - 48 ≡ n = omega arith in
    rw (is, least, most, back) refl

decimal : (x : ℕ) → x % 10 ≤ 9
decimal x = omega arith

written_day : (d : Day) → d.year ≤ 9999 → d.month ≤ 99 → d.day ≤ 99 → day_written (text_of_day d) ≡ Some d
unfolding day_written
written_day d year month day =
    let text = text_of_day d in
    let y : 1000 * (d.year / 1000 % 10) + 100 * (d.year / 100 % 10) + 10 * (d.year / 10 % 10) + d.year % 10 ≡ d.year = omega arith in
    let m : 10 * (d.month / 10 % 10) + d.month % 10 ≡ d.month = omega arith in
    let e : 10 * (d.day / 10 % 10) + d.day % 10 ≡ d.day = omega arith in
    rw (
      digit_there text 0 (d.year / 1000 % 10) refl (decimal (d.year / 1000)),
      digit_there text 1 (d.year / 100 % 10) refl (decimal (d.year / 100)),
      digit_there text 2 (d.year / 10 % 10) refl (decimal (d.year / 10)),
      digit_there text 3 (d.year % 10) refl (decimal d.year),
      digit_there text 5 (d.month / 10 % 10) refl (decimal (d.month / 10)),
      digit_there text 6 (d.month % 10) refl (decimal d.month),
      digit_there text 8 (d.day / 10 % 10) refl (decimal (d.day / 10)),
      digit_there text 9 (d.day % 10) refl (decimal d.day),
    ) (ap Some (rw (y, m, e) refl))

month_small : (year month : ℕ) → month_length year month ≤ 31
month_small year month = grind arith

pub day_again : (n : ℕ) → n < 2 ^ 16 → day_of (day_text n) ≡ Some n
unfolding day_of day_text
day_again n small =
    let t = every_number n small in
    let l = valid t.day t.valid_day in
    let written = written_day t.day t.year (omega (arith, l.1)) (omega (arith, l.3, month_small t.day.year t.day.month)) in
    rw (← t.tells, written) t.number

-- six digits of four bits
record SixDigits (n : ℕ) : Type 0 where
  a : n / 0x100000 % 16 ≤ 9
  b : n / 0x10000 % 16 ≤ 9
  c : n / 0x1000 % 16 ≤ 9
  d : n / 0x100 % 16 ≤ 9
  e : n / 0x10 % 16 ≤ 9
  f : n % 16 ≤ 9
  bound : n < 0x1000000

pair_digits : (most byte : ℕ) → is_pair most byte ≡ true → (byte / 16 ≤ 9) × (byte % 16 ≤ 9)
unfolding is_pair
pair_digits most byte is =
    let one = both (nat_le (byte / 16) 9) (nat_le (byte % 16) 9 && nat_le (byte / 16 * 10 + byte % 16) most) is in
    let two = both (nat_le (byte % 16) 9) (nat_le (byte / 16 * 10 + byte % 16) most) one.1 in
    (leb-true _ _ one.0, leb-true _ _ two.0)

six_digits : (hours n : ℕ) → is_time hours n ≡ true → SixDigits n
unfolding is_time
six_digits hours n is =
    let one = both (is_pair hours (n / 65536)) (is_pair 59 (n / 256 % 256) && is_pair 59 (n % 256)) is in
    let two = both (is_pair 59 (n / 256 % 256)) (is_pair 59 (n % 256)) one.1 in
    let h = pair_digits hours (n / 65536) one.0 in
    let m = pair_digits 59 (n / 256 % 256) two.0 in
    let s = pair_digits 59 (n % 256) two.1 in
    record {
      a = omega (arith, h.0);
      b = omega (arith, h.1);
      c = omega (arith, m.0);
      d = omega (arith, m.1);
      e = omega (arith, s.0);
      f = omega (arith, s.1);
      bound = omega (arith, h.0);
    }

written_digits : (n : ℕ) → SixDigits n → digits_written (time_text n) ≡ Some n
unfolding digits_written time_text
written_digits n s =
    let text = time_text n in
    let whole : 0x100000 * (n / 0x100000 % 16) + 0x10000 * (n / 0x10000 % 16) + 0x1000 * (n / 0x1000 % 16) + 0x100 * (n / 0x100 % 16) + 0x10 * (n / 0x10 % 16) + n % 16 ≡ n = omega (arith, s.bound) in
    rw (
      digit_there text 0 (n / 0x100000 % 16) refl s.a,
      digit_there text 1 (n / 0x10000 % 16) refl s.b,
      digit_there text 3 (n / 0x1000 % 16) refl s.c,
      digit_there text 4 (n / 0x100 % 16) refl s.d,
      digit_there text 6 (n / 0x10 % 16) refl s.e,
      digit_there text 7 (n % 16) refl s.f,
    ) (ap Some whole)

colons : (n : ℕ) → (length (time_text n) ≡ 8) × (slice_index (time_text n) 2 ≡ 58) × (slice_index (time_text n) 5 ≡ 58)
unfolding time_text
colons n = (refl, refl, refl)

pub time_again : (hours n : ℕ) → is_time hours n ≡ true → time_of hours (time_text n) ≡ Some n
unfolding time_of
time_again hours n is =
    let c = colons n in
    rw (c.0, c.1, c.2, written_digits n (six_digits hours n is), is) refl

-- a start is a day and a time of it
front : (n : ℕ) (rest : List ℕ) → take 10 (day_text n ++ rest) ≡ day_text n
unfolding day_text
front n rest = refl

back : (n : ℕ) (rest : List ℕ) → drop 11 (day_text n ++ 32 ∷ rest) ≡ rest
unfolding day_text
back n rest = refl

space : (n : ℕ) (rest : List ℕ) → slice_index (day_text n ++ 32 ∷ rest) 10 ≡ 32
unfolding day_text
space n rest = refl

nineteen : (n m : ℕ) → length (day_text n ++ 32 ∷ time_text m) ≡ 19
unfolding day_text time_text
nineteen n m = refl

no_word : (n m : ℕ) → bytes_eq (day_text n ++ 32 ∷ time_text m) (codes "undefined") ≡ false
unfolding day_text time_text
no_word n m =
    let test : nat_eq (last_digit ((day_numbered n).year / 1000)) 117 ≡ false = ne_eqb _ _ (λ (e : last_digit ((day_numbered n).year / 1000) ≡ 117). absurd (omega (arith, e))) in
    rw test refl

-- the time of a start is given by its last 24 bits
low_time : (n : ℕ) → time_text n ≡ time_text (n % 0x1000000)
unfolding time_text
low_time n =
    let a : n / 0x100000 % 16 ≡ n % 0x1000000 / 0x100000 % 16 = omega arith in
    let b : n / 0x10000 % 16 ≡ n % 0x1000000 / 0x10000 % 16 = omega arith in
    let c : n / 0x1000 % 16 ≡ n % 0x1000000 / 0x1000 % 16 = omega arith in
    let d : n / 0x100 % 16 ≡ n % 0x1000000 / 0x100 % 16 = omega arith in
    let e : n / 0x10 % 16 ≡ n % 0x1000000 / 0x10 % 16 = omega arith in
    let f : n % 16 ≡ n % 0x1000000 % 16 = omega arith in
    rw (a, b, c, d, e, f) refl

moment_again : (n : ℕ) → n < 2 ^ 40 → is_time 23 (n % 0x1000000) ≡ true
    → moment_of (day_text (n / 0x1000000 % 0x10000) ++ 32 ∷ time_text n) ≡ Some n
unfolding moment_of
moment_again n small is =
    let day = n / 0x1000000 % 0x10000 in
    let number = day_again day (omega arith) in
    let time : time_of 23 (time_text n) ≡ Some (n % 0x1000000) = ap (time_of 23) (low_time n) ∙ time_again 23 (n % 0x1000000) is in
    let whole : 0x1000000 * day + n % 0x1000000 ≡ n = omega (arith, small) in
    rw (front day (32 ∷ time_text n), back day (time_text n), number, time) (ap Some whole)

start_by : (n : ℕ) (b : Bool) → nat_eq n 0xFFFFFFFFFF ≡ b → n < 2 ^ 40 → (b || is_time 23 (n % 0x1000000)) ≡ true
    → start_of (if b then codes "undefined" else day_text (n / 0x1000000 % 0x10000) ++ (codes " " ++ time_text n)) ≡ Some n
unfolding start_of
start_by n true at small is = ap Some (sym (eqb-true n 0xFFFFFFFFFF at))
start_by n false at small is =
    let day = n / 0x1000000 % 0x10000 in
    rw (no_word day n, nineteen day n, space day (time_text n)) (moment_again n small is)

pub start_again : (n : ℕ) → n < 2 ^ 40 → is_start n ≡ true → start_of (start_text n) ≡ Some n
unfolding start_text is_start
start_again n small is = start_by n (nat_eq n 0xFFFFFFFFFF) refl small is

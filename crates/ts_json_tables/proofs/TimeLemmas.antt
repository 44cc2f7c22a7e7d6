-- What texts give are times and starts.
use Rattle.std.proofs.Common.{◌≡◌, ℕ, ◌+◌, ◌-◌, ◌*◌, ◌/◌, ◌%◌, ◌^◌, ◌<◌, ◌≤◌, Bool, true, false, List, take, drop, refl, arith, subst}
use Rattle.std.specs.Prelude.{◌&&◌, ◌||◌, if◌then◌else◌, Option, Some, None, Ok, bytes_eq, codes, length, nat_eq, nat_le, nat_lt, slice_index}
use Rattle.std.proofs.lemmas.Bool.{and_from, leb-true, lt-ltb, ltb-true}
use Rattle.serde_json.specs.Data.{Members}
use Rattle.ts_fields.specs.Times.{is_pair, is_start, is_time}
use Rattle.ts_days.specs.declared.calendar.Day.{Day}
use Rattle.ts_days.specs.Calendar.{days_before, is_day, number_of_day}
use Rattle.ts_days.specs.DayTexts.{day_of, day_written, has_hyphens}
use Rattle.ts_days.specs.Digits.{◌>>=◌}
use Rattle.ts_days.specs.TimeTexts.{digits_written, has_colons, moment_of, start_of, time_of}
use Rattle.ts_jtree.specs.Attributes.{duration_attribute, start_attribute, text_at}
use Rattle.ts_json_tables.proofs.NumberLemmas.{given}
use Rattle.ts_json_tables.proofs.StepLemmas.{both, then_ok}

-- ---- times

time_told : (hours : ℕ) (text : List ℕ) (n : ℕ) → time_of hours text ≡ Some n → is_time hours n ≡ true
unfolding time_of
time_told hours text n is = go (has_colons text) (digits_written text) is
  where
    kept : (m : ℕ) (t : Bool) → is_time hours m ≡ t → (if t then Some m else None) ≡ Some n → is_time hours n ≡ true
    kept m true at is = let e : m ≡ n = cc in subst (λ k. is_time hours k ≡ true) e at
    kept m false at is = cc

    go : (b : Bool) (o : Option ℕ) → (if b then (o >>= λ m. if is_time hours m then Some m else None) else None) ≡ Some n
        → is_time hours n ≡ true
    go false o is = cc
    go true None is = cc
    go true (Some m) is = kept m (is_time hours m) refl is

pair_high : (most byte : ℕ) → is_pair most byte ≡ true → byte / 16 ≤ 9
unfolding is_pair
pair_high most byte is = leb-true (byte / 16) 9 (both (nat_le (byte / 16) 9) _ is).0

-- the highest of the six digits is a decimal one
time_small : (hours n : ℕ) → is_time hours n ≡ true → n < 0x1000000
unfolding is_time
time_small hours n is =
    let high = pair_high hours (n / 65536) (both (is_pair hours (n / 65536)) _ is).0 in omega (arith, high)

-- ---- starts

number_small : (d : Day) (n : ℕ) → number_of_day d ≡ Some n → n < 65536
unfolding number_of_day
number_small d n is =
    go (is_day d && (nat_le 1858 d.year && (nat_le 320 (days_before d) && nat_lt (days_before d) 65856))) refl is
  where
    go : (t : Bool) → (is_day d && (nat_le 1858 d.year && (nat_le 320 (days_before d) && nat_lt (days_before d) 65856))) ≡ t
        → (if t then Some (days_before d - 320) else None) ≡ Some n → n < 65536
    go true at is =
        let a = both (is_day d) _ at in
        let b = both (nat_le 1858 d.year) _ a.1 in
        let c = both (nat_le 320 (days_before d)) (nat_lt (days_before d) 65856) b.1 in
        let e : days_before d - 320 ≡ n = cc in
        omega (arith, e, leb-true 320 (days_before d) c.0, ltb-true (days_before d) 65856 c.1)
    go false at is = cc

day_small : (text : List ℕ) (n : ℕ) → day_of text ≡ Some n → n < 65536
unfolding day_of
day_small text n is = go (has_hyphens text) (day_written text) is
  where
    go : (b : Bool) (o : Option Day) → (if b then (o >>= λ d. number_of_day d) else None) ≡ Some n → n < 65536
    go false o is = cc
    go true None is = cc
    go true (Some d) is = number_small d n is

or_right : (a b : Bool) → b ≡ true → (a || b) ≡ true
or_right true b is = refl
or_right false b is = is

moment_told : (text : List ℕ) (n : ℕ) → moment_of text ≡ Some n → (n < 2 ^ 40) × (is_start n ≡ true)
unfolding moment_of is_start
moment_told text n is =
    go (day_of (take 10 text)) (time_of 23 (drop 11 text)) (day_small (take 10 text)) (time_told 23 (drop 11 text)) is
  where
    go : (day time : Option ℕ) → ((m : ℕ) → day ≡ Some m → m < 65536) → ((m : ℕ) → time ≡ Some m → is_time 23 m ≡ true)
        → (day >>= λ x. time >>= λ y. Some (0x1000000 * x + y)) ≡ Some n → (n < 2 ^ 40) × (is_start n ≡ true)
    go None time small good is = cc
    go (Some x) None small good is = cc
    go (Some x) (Some y) small good is =
        let e : 0x1000000 * x + y ≡ n = cc in
        let day = small x refl in
        let valid = good y refl in
        let time = time_small 23 y valid in
        let low : (0x1000000 * x + y) % 0x1000000 ≡ y = omega (arith, time) in
        subst (λ k. (k < 2 ^ 40) × (is_start k ≡ true)) e
        (omega (arith, day, time), or_right (nat_eq (0x1000000 * x + y) 0xFFFFFFFFFF) _ (rw low valid))

start_told : (text : List ℕ) (n : ℕ) → start_of text ≡ Some n → (n < 2 ^ 40) × (is_start n ≡ true)
unfolding start_of is_start
start_told text n is =
    go (bytes_eq text (codes "undefined")) (nat_eq (length text) 19 && nat_eq (slice_index text 10) 32) is
  where
    go : (a b : Bool) → (if a then Some 0xFFFFFFFFFF else if b then moment_of text else None) ≡ Some n
        → (n < 2 ^ 40) × (is_start n ≡ true)
    go true b is =
        let e : 0xFFFFFFFFFF ≡ n = cc in
        subst (λ k. (k < 2 ^ 40) × (is_start k ≡ true)) e (omega arith, refl)
    go false true is = moment_told text n is
    go false false is = cc

-- ---- attributes

-- a start that is read is one of 40 bits
pub start_good : (key : List ℕ) (ms : Members) (n : ℕ) → start_attribute key ms ≡ Ok n
    → (nat_lt n (2 ^ 40) && is_start n) ≡ true
unfolding start_attribute
start_good key ms n is =
    then_ok (text_at key ms) _ n is (λ text was later.
    let told = start_told text n (given (start_of text) key _ n later) in
    and_from (nat_lt n (2 ^ 40)) (is_start n) (lt-ltb n (2 ^ 40) told.0) told.1)

-- a duration that is read is one of 24 bits
pub duration_good : (key : List ℕ) (ms : Members) (n : ℕ) → duration_attribute key ms ≡ Ok n
    → (nat_lt n (2 ^ 24) && is_time 99 n) ≡ true
unfolding duration_attribute
duration_good key ms n is =
    then_ok (text_at key ms) _ n is (λ text was later.
    let told = time_told 99 text n (given (time_of 99 text) key _ n later) in
    and_from (nat_lt n (2 ^ 24)) (is_time 99 n) (lt-ltb n (2 ^ 24) (time_small 99 n told)) told)

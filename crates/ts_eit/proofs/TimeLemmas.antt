-- Times as digits, and back.
use Rattle.std.proofs.Common.{◌≡◌, ℕ, ◌+◌, ◌*◌, ◌/◌, ◌%◌, ◌^◌, ◌<◌, ◌≤◌, Bool, true, false, refl, ap, ◌∙◌, arith}
use Rattle.std.specs.Prelude.{◌||◌, nat_eq, nat_le}
use Rattle.std.proofs.lemmas.Bool.{and_parts, and_from, leb-true, le-leb, ne_eqb, true≢false}
use Rattle.ts_fields.specs.Times.{is_pair, is_start, is_time}
use Rattle.ts_eit.specs.EventTimes.{pair_bits, time_bits}

-- a byte of two digits
pub record IsPair (most byte : ℕ) : Type 0 where
  pub high : byte / 16 ≤ 9
  pub low : byte % 16 ≤ 9
  pub small : byte / 16 * 10 + byte % 16 ≤ most

pub pair_of : (most byte : ℕ) → is_pair most byte ≡ true → IsPair most byte
unfolding is_pair
pair_of most byte valid =
    let one = and_parts (nat_le (byte / 16) 9) _ valid in
    let two = and_parts (nat_le (byte % 16) 9) _ one.1 in
    record { high = leb-true (byte / 16) 9 one.0; low = leb-true (byte % 16) 9 two.0; small = leb-true (byte / 16 * 10 + byte % 16) most two.1 }

pub pair_is : (most byte : ℕ) → byte / 16 ≤ 9 → byte % 16 ≤ 9 → byte / 16 * 10 + byte % 16 ≤ most → is_pair most byte ≡ true
unfolding is_pair
pair_is most byte high low small =
    and_from (nat_le (byte / 16) 9) _ (le-leb (byte / 16) 9 high) (and_from (nat_le (byte % 16) 9) _ (le-leb (byte % 16) 9 low) (le-leb (byte / 16 * 10 + byte % 16) most small))

-- a pair that is read is written as it was
pub pair_again : (byte : ℕ) → is_pair 99 byte ≡ true → pair_bits (byte / 16 * 10 + byte % 16) ≡ byte
unfolding pair_bits
pair_again byte valid = let w = pair_of 99 byte valid in omega (arith, w.high, w.low)

pub pair_most : (most byte : ℕ) → is_pair most byte ≡ true → byte / 16 * 10 + byte % 16 ≤ most
pair_most most byte valid = (pair_of most byte valid).small

pub pair_wider : (byte : ℕ) → is_pair 59 byte ≡ true → is_pair 99 byte ≡ true
pair_wider byte valid = let w = pair_of 59 byte valid in pair_is 99 byte w.high w.low (omega (arith, w.small))

-- a number as a pair
pub pair_small : (n : ℕ) → n ≤ 99 → pair_bits n < 256
unfolding pair_bits
pair_small n few = omega arith

pair_valid : (most n : ℕ) → n ≤ most → n ≤ 99 → is_pair most (pair_bits n) ≡ true
unfolding pair_bits
pair_valid most n fits few = pair_is most (n / 10 * 16 + n % 10) (omega arith) (omega arith) (omega arith)

-- the three bytes of a time
high_byte : (a b c : ℕ) → b < 256 → c < 256 → (a * 65536 + (b * 256 + c)) / 65536 ≡ a
high_byte a b c one two = omega arith

middle_byte : (a b c : ℕ) → b < 256 → c < 256 → (a * 65536 + (b * 256 + c)) / 256 % 256 ≡ b
middle_byte a b c one two = omega arith

low_byte : (a b c : ℕ) → b < 256 → c < 256 → (a * 65536 + (b * 256 + c)) % 256 ≡ c
low_byte a b c one two = omega arith

whole : (a b c bits : ℕ) → a ≡ bits / 65536 → b ≡ bits / 256 % 256 → c ≡ bits % 256 → a * 65536 + (b * 256 + c) ≡ bits
whole a b c bits one two three = omega arith

-- hours, minutes and seconds
hours_in : (h m s : ℕ) → m < 60 → s < 60 → (h * 3600 + (m * 60 + s)) / 3600 ≡ h
hours_in h m s one two = omega arith

minutes_in : (h m s : ℕ) → m < 60 → s < 60 → (h * 3600 + (m * 60 + s)) / 60 % 60 ≡ m
minutes_in h m s one two = omega arith

seconds_in : (h m s : ℕ) → m < 60 → s < 60 → (h * 3600 + (m * 60 + s)) % 60 ≡ s
seconds_in h m s one two = omega arith

pub record IsTime (hours bits : ℕ) : Type 0 where
  pub hour : is_pair hours (bits / 65536) ≡ true
  pub minute : is_pair 59 (bits / 256 % 256) ≡ true
  pub second : is_pair 59 (bits % 256) ≡ true

pub time_of : (hours bits : ℕ) → is_time hours bits ≡ true → IsTime hours bits
unfolding is_time
time_of hours bits valid =
    let one = and_parts (is_pair hours (bits / 65536)) _ valid in
    let two = and_parts (is_pair 59 (bits / 256 % 256)) _ one.1 in
    record { hour = one.0; minute = two.0; second = two.1 }

-- a time that is read is written so
pub time_again : (h m s bits : ℕ) → m < 60 → s < 60 → pair_bits h ≡ bits / 65536 → pair_bits m ≡ bits / 256 % 256 → pair_bits s ≡ bits % 256 → time_bits (h * 3600 + (m * 60 + s)) ≡ bits
unfolding time_bits
time_again h m s bits one two high middle low =
    let all = h * 3600 + (m * 60 + s) in
    whole (pair_bits (all / 3600)) (pair_bits (all / 60 % 60)) (pair_bits (all % 60)) bits (ap pair_bits (hours_in h m s one two) ∙ high)
    (ap pair_bits (minutes_in h m s one two) ∙ middle) (ap pair_bits (seconds_in h m s one two) ∙ low)

-- a number of seconds is a time
pub time_valid : (hours seconds : ℕ) → hours ≤ 99 → seconds < hours * 3600 + 3600 → is_time hours (time_bits seconds) ≡ true
unfolding is_time time_bits
time_valid hours seconds few inside =
    let h = pair_bits (seconds / 3600) in
    let m = pair_bits (seconds / 60 % 60) in
    let s = pair_bits (seconds % 60) in
    let ms : m < 256 = pair_small (seconds / 60 % 60) (omega arith) in
    let ss : s < 256 = pair_small (seconds % 60) (omega arith) in
    and_from (is_pair hours ((h * 65536 + (m * 256 + s)) / 65536)) _
    (ap (is_pair hours) (high_byte h m s ms ss) ∙ pair_valid hours (seconds / 3600) (omega arith) (omega arith))
    (and_from (is_pair 59 ((h * 65536 + (m * 256 + s)) / 256 % 256)) _
    (ap (is_pair 59) (middle_byte h m s ms ss) ∙ pair_valid 59 (seconds / 60 % 60) (omega arith) (omega arith))
    (ap (is_pair 59) (low_byte h m s ms ss) ∙ pair_valid 59 (seconds % 60) (omega arith) (omega arith)))

or_right : (a b : Bool) → b ≡ true → (a || b) ≡ true
or_right true b e = refl
or_right false b e = e

-- a start
pub start_valid : (day time : ℕ) → time < 2 ^ 24 → is_time 23 time ≡ true → is_start (day * 0x1000000 + time) ≡ true
unfolding is_start
start_valid day time small valid =
    or_right (nat_eq (day * 0x1000000 + time) 0xFFFFFFFFFF) (is_time 23 ((day * 0x1000000 + time) % 0x1000000)) (ap (is_time 23) (rest day time small) ∙ valid)
  where
    rest : (day time : ℕ) → time < 2 ^ 24 → (day * 0x1000000 + time) % 0x1000000 ≡ time
    rest day time small = omega arith

-- a start that is not undefined has a valid time
pub start_time : (bits : ℕ) → (bits ≡ 0xFFFFFFFFFF → ⊥) → is_start bits ≡ true → is_time 23 (bits % 0x1000000) ≡ true
unfolding is_start
start_time bits defined valid = other (nat_eq bits 0xFFFFFFFFFF) (is_time 23 (bits % 0x1000000)) (ne_eqb bits 0xFFFFFFFFFF defined) valid
  where
    other : (a b : Bool) → a ≡ false → (a || b) ≡ true → b ≡ true
    other false b no_undefined e = e
    other true b no_undefined e = absurd (true≢false no_undefined)

pub time_wider : (bits : ℕ) → is_time 23 bits ≡ true → is_time 99 bits ≡ true
unfolding is_time
time_wider bits valid =
    let w = time_of 23 bits valid in
    let p = pair_of 23 (bits / 65536) w.hour in
    and_from (is_pair 99 (bits / 65536)) _ (pair_is 99 (bits / 65536) p.high p.low (omega (arith, p.small))) (and_from (is_pair 59 (bits / 256 % 256)) _ w.minute w.second)

-- the same of three bytes
pub time_is : (hours seconds a b c : ℕ) → hours ≤ 99 → seconds < hours * 3600 + 3600 → a ≡ pair_bits (seconds / 3600) → b ≡ pair_bits (seconds / 60 % 60) → c ≡ pair_bits (seconds % 60) → is_time hours (a * 65536 + (b * 256 + c)) ≡ true
unfolding time_bits
time_is hours seconds a b c few inside one two three =
    ap (λ x. is_time hours (x * 65536 + (b * 256 + c))) one
    ∙ ap (λ x. is_time hours (pair_bits (seconds / 3600) * 65536 + (x * 256 + c))) two
    ∙ ap (λ x. is_time hours (pair_bits (seconds / 3600) * 65536 + (pair_bits (seconds / 60 % 60) * 256 + x))) three
    ∙ time_valid hours seconds few inside

pub undefined_valid : is_start 0xFFFFFFFFFF ≡ true
unfolding is_start
undefined_valid = refl

-- A start that is read back from its bits.
use Rattle.std.proofs.Common.{◌≡◌, ◌∙◌, ℕ, ◌+◌, ◌*◌, ◌/◌, ◌%◌, ◌<◌, ℤ, pos, ◌+ℤ◌, false, refl, ap, arith, cond, unwrap_or, option_map, Some, None}
use Rattle.std.specs.Prelude.{◌==◌}
use Rattle.ts_eit.specs.EventTimes.{pair_bits, start_bits, time_bits}
use Rattle.ts_eit.specs.declared.start.Start.{Start}
use Rattle.plug_time.specs.UtcTime.{if_held, pair_value}
use Rattle.plug_eit.specs.EventStart.{later_start, seconds_bits, start_seconds, time_seconds}

pair-back : (n : ℕ) → n < 100 → pair_value (pair_bits n) ≡ n
unfolding pair_bits
pair-back n h = omega (arith, h)

pair-small : (n : ℕ) → n < 100 → pair_bits n < 255
unfolding pair_bits
pair-small n h = omega (arith, h)

high : (a b c : ℕ) → b < 256 → c < 256 → (a * 65536 + (b * 256 + c)) / 65536 ≡ a
high a b c hb hc = omega (arith, hb, hc)

middle : (a b c : ℕ) → b < 256 → c < 256 → (a * 65536 + (b * 256 + c)) / 256 % 256 ≡ b
middle a b c hb hc = omega (arith, hb, hc)

low : (a b c : ℕ) → c < 256 → (a * 65536 + (b * 256 + c)) % 256 ≡ c
low a b c hc = omega (arith, hc)

parts : (s : ℕ) → 3600 * (s / 3600) + (60 * (s / 60 % 60) + s % 60) ≡ s
parts s = omega arith

abbrev hours : ℕ → ℕ
hours s = pair_bits (s / 3600)

abbrev minutes : ℕ → ℕ
minutes s = pair_bits (s / 60 % 60)

abbrev seconds : ℕ → ℕ
seconds s = pair_bits (s % 60)

minutes-small : (s : ℕ) → minutes s < 255
minutes-small s = pair-small (s / 60 % 60) (omega arith)

seconds-small : (s : ℕ) → seconds s < 255
seconds-small s = pair-small (s % 60) (omega arith)

time-is : (s : ℕ) → time_bits s ≡ hours s * 65536 + (minutes s * 256 + seconds s)
unfolding time_bits
time-is s = refl

abbrev bits_as : ℕ → ℕ → ℕ → ℕ
bits_as a b c = a * 65536 + (b * 256 + c)

-- the seconds of a time of day are those that it was made of
time-back : (s : ℕ) → s < 86400 → time_seconds (time_bits s) ≡ s
time-back s h =
    ap time_seconds (time-is s)
    ∙ ap (λ n. 3600 * pair_value n + (60 * pair_value (bits_as (hours s) (minutes s) (seconds s) / 256 % 256) + pair_value (bits_as (hours s) (minutes s) (seconds s) % 256)))
    (high (hours s) (minutes s) (seconds s) (omega (arith, minutes-small s)) (omega (arith, seconds-small s)))
    ∙ ap (λ n. 3600 * pair_value (hours s) + (60 * pair_value n + pair_value (bits_as (hours s) (minutes s) (seconds s) % 256)))
    (middle (hours s) (minutes s) (seconds s) (omega (arith, minutes-small s)) (omega (arith, seconds-small s)))
    ∙ ap (λ n. 3600 * pair_value (hours s) + (60 * pair_value (minutes s) + pair_value n))
    (low (hours s) (minutes s) (seconds s) (omega (arith, seconds-small s)))
    ∙ ap (λ n. 3600 * n + (60 * pair_value (minutes s) + pair_value (seconds s))) (pair-back (s / 3600) (omega (arith, h)))
    ∙ ap (λ n. 3600 * (s / 3600) + (60 * n + pair_value (seconds s))) (pair-back (s / 60 % 60) (omega arith))
    ∙ ap (λ n. 3600 * (s / 3600) + (60 * (s / 60 % 60) + n)) (pair-back (s % 60) (omega arith))
    ∙ parts s

hours-small : (s : ℕ) → s < 86400 → hours s < 255
hours-small s h = pair-small (s / 3600) (omega (arith, h))

time-small : (s : ℕ) → s < 86400 → time_bits s < 0x1000000
time-small s h = omega (arith, time-is s, hours-small s h, minutes-small s, seconds-small s)

day-back : (d t : ℕ) → t < 0x1000000 → (d * 0x1000000 + t) / 0x1000000 ≡ d
day-back d t h = omega (arith, h)

rest-back : (d t : ℕ) → t < 0x1000000 → (d * 0x1000000 + t) % 0x1000000 ≡ t
rest-back d t h = omega (arith, h)

pub start-is : (start : Start) → start_bits (Some start) ≡ start.day * 0x1000000 + time_bits start.second
unfolding start_bits
start-is start = refl

-- the seconds of a start are those of its day and its time of day
pub start-back : (start : Start) → start_seconds (start_bits (Some start)) ≡ start.day * 86400 + start.second
start-back start =
    let t = time-small start.second start.in_range in
    ap start_seconds (start-is start)
    ∙ ap (λ d. 86400 * d + time_seconds ((start.day * 0x1000000 + time_bits start.second) % 0x1000000)) (day-back start.day (time_bits start.second) t)
    ∙ ap (λ r. 86400 * start.day + time_seconds r) (rest-back start.day (time_bits start.second) t)
    ∙ ap (λ s. 86400 * start.day + s) (time-back start.second start.in_range)
    ∙ swapped start.day start.second
  where
    swapped : (d s : ℕ) → 86400 * d + s ≡ d * 86400 + s
    swapped d s = omega arith

-- and it is not undefined
defined : (start : Start) → (start_bits (Some start) == 0xFFFFFFFFFF) ≡ false
defined start = grind (arith, start-is start, time-is start.second, seconds-small start.second)

pub later-is : (shift : ℤ) (start : Start) → later_start shift (start_bits (Some start))
    ≡ unwrap_or (option_map seconds_bits (if_held (pos (start.day * 86400 + start.second) +ℤ shift))) (start_bits (Some start))
unfolding later_start
later-is shift start =
    ap (λ b. cond b (start_bits (Some start)) (unwrap_or (option_map seconds_bits (if_held (pos (start_seconds (start_bits (Some start))) +ℤ shift))) (start_bits (Some start)))) (defined start)
    ∙ ap (λ n. unwrap_or (option_map seconds_bits (if_held (pos n +ℤ shift))) (start_bits (Some start))) (start-back start)

-- an undefined start stays
pub later_undefined : (shift : ℤ) → start_bits None ≡ later_start shift (start_bits None)
unfolding later_start start_bits
later_undefined shift = refl

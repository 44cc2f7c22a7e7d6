-- Lemmas on the whole units that packets take at a constant bit rate: all of them, compared with two parts of them.
use Rattle.std.proofs.Common.{◌≡◌, ℕ, ◌+◌, ◌-◌, ◌*◌, ◌/◌, ◌%◌, ◌<◌, ◌≤◌, ap, arith}
use Rattle.std.proofs.Math.Nat.{add-mul, div-mul-le_self, lt-div-mul-add}
use Rattle.std.proofs.lemmas.Nat.{div_below, le-div}
use Rattle.plug_clock.specs.ClockUnits.{clock_at, units_taken}
use Rattle.plug_clock.specs.declared.limits.TheConstants.{CLOCK_PERIOD, PACKET_UNITS}

-- the sum of two quotients is at most the quotient of the sum
least_quotient : (a b n : ℕ) → 0 < n → a / n + b / n ≤ (a + b) / n
least_quotient a b n some =
    le-div (a / n + b / n) (a + b) n some (omega (arith, add-mul (a / n) (b / n) n, div-mul-le_self a n, div-mul-le_self b n))

-- and less by at most one
most_quotient : (a b n : ℕ) → 0 < n → (a + b) / n < a / n + b / n + 2
most_quotient a b n some =
    div_below (a + b) n (a / n + b / n + 2) some
    (omega (
      arith,
      add-mul (a / n + b / n) 2 n,
      add-mul (a / n) (b / n) n,
      lt-div-mul-add {a = a} {b = n} some,
      lt-div-mul-add {a = b} {b = n} some,
    ))

-- the units of all packets, as those of a sum
of_all : (bitrate before packets : ℕ) → units_taken bitrate (before + packets) ≡ (before * PACKET_UNITS + packets * PACKET_UNITS) / bitrate
of_all bitrate before packets =
    ap (λ (n : ℕ). n / bitrate) (let split : (before + packets) * PACKET_UNITS ≡ before * PACKET_UNITS + packets * PACKET_UNITS = omega arith in split)

-- by how many units all packets take more
pub units_over : ℕ → ℕ → ℕ → ℕ
units_over bitrate before packets = units_taken bitrate (before + packets) - (units_taken bitrate before + units_taken bitrate packets)

pub one_over : (bitrate before packets : ℕ) → 0 < bitrate → units_over bitrate before packets ≤ 1
unfolding units_over
one_over bitrate before packets some =
    omega (arith, of_all bitrate before packets, most_quotient (before * PACKET_UNITS) (packets * PACKET_UNITS) bitrate some)

-- modulo the period of the clock
around : (start a b c : ℕ) → a + b ≤ c → (((start + a) % CLOCK_PERIOD + b) + (c - (a + b))) % CLOCK_PERIOD ≡ ((start + c) % CLOCK_PERIOD) % CLOCK_PERIOD
around start a b c le = omega arith

-- with these units the expected clock is the actual one
pub goes_on : (bitrate start before packets : ℕ) → 0 < bitrate
    → ((clock_at bitrate start before + units_taken bitrate packets) + units_over bitrate before packets) % CLOCK_PERIOD
    ≡ clock_at bitrate start (before + packets) % CLOCK_PERIOD
unfolding units_over
goes_on bitrate start before packets some =
    around start (units_taken bitrate before) (units_taken bitrate packets) (units_taken bitrate (before + packets))
    (omega (arith, of_all bitrate before packets, least_quotient (before * PACKET_UNITS) (packets * PACKET_UNITS) bitrate some))

-- what is at most a number that is at most one, is at most one
pub at_most_one : (n m : ℕ) → n ≤ m → m ≤ 1 → n ≤ 1
at_most_one n m le one = omega (arith, le, one)

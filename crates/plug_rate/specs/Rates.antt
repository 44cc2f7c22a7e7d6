-- Intervals and bit rates, by the clock. This project's own rule, over the 27 MHz of the system clock of ISO/IEC 13818-1,
-- 2.4.2.1.
use Rattle.std.specs.Prelude.{ℕ, ◌+◌, ◌*◌, ◌/◌, Bool, nat_lt}
use Rattle.plug_clock.specs.declared.limits.TheConstants.{PACKET_UNITS}
use Rattle.plug_rate.specs.declared.limits.TheConstants.{MILLISECOND}

-- how many whole intervals of so many milliseconds a time in units of the clock has
abbrev pub intervals_in : ℕ → ℕ → ℕ
intervals_in interval units = units / (interval * MILLISECOND)

-- from one time to another one or more of them have passed
abbrev pub has_passed : ℕ → ℕ → ℕ → Bool
has_passed interval before after = nat_lt (intervals_in interval before) (intervals_in interval after)

-- the whole number that is nearest to a quotient; the greater one where two are
abbrev pub nearest : ℕ → ℕ → ℕ
nearest part whole = (2 * part + whole) / (2 * whole)

-- the bits per second of so many packets in so many units
abbrev pub rate_of : ℕ → ℕ → ℕ
rate_of packets units = nearest (packets * PACKET_UNITS) units

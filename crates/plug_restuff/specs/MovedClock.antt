-- The PCR of a packet that leaves at another time than it came. This project's own rule, over the
-- program_clock_reference of ISO/IEC 13818-1, 2.4.3.5.
use Rattle.std.specs.Prelude.{ℕ, ◌+◌, ◌-◌, ◌*◌, ◌/◌, ◌%◌, nat_le, List, Option, None, Some, if◌then◌else◌}
use Rattle.ts_packet.specs.Pcr.{with_pcr}
use Rattle.plug_clock.specs.ClockUnits.{units_after}
use Rattle.plug_clock.specs.StreamClock.{time_in}
use Rattle.plug_clock.specs.declared.limits.TheConstants.{CLOCK_PERIOD, PACKET_UNITS}

-- the least whole number that a quotient is not above
abbrev pub rounded_up : ℕ → ℕ → ℕ
rounded_up n divisor = (n + (divisor - 1)) / divisor

-- The clock of a packet that came in a cell of the rate `from` and leaves in a slot of the rate `to`. The cell begins
-- cell * PACKET_UNITS / from units after the first one, the slot slot * PACKET_UNITS / to units; the clock moves by the
-- difference, rounded to less, whether the slot is later or earlier, and wraps at its period.
abbrev pub moved_clock : ℕ → ℕ → ℕ → ℕ → ℕ → ℕ
moved_clock from to cell slot clock =
    if nat_le (cell * to) (slot * from)
    then (clock + (slot * from - cell * to) * PACKET_UNITS / (from * to)) % CLOCK_PERIOD
    else units_after (rounded_up ((cell * to - slot * from) * PACKET_UNITS) (from * to)) clock

-- a packet with its PCR moved, where it has this one
abbrev pub with_moved : (ℕ → ℕ) → List ℕ → Option ℕ → List ℕ
with_moved move packet None = packet
with_moved move packet (Some clock) = with_pcr packet (move clock)

-- a packet that came in a cell and leaves in a slot; a PCR of a packet with transport_error_indicator stays as it is
abbrev pub moved_packet : ℕ → ℕ → ℕ → ℕ → List ℕ → List ℕ
moved_packet from to cell slot packet = with_moved (moved_clock from to cell slot) packet (time_in packet)

-- Units of the 27 MHz clock. This project's own rule, over the program_clock_reference of ISO/IEC 13818-1, 2.4.3.5.
use Rattle.std.specs.Prelude.{ℕ, ◌+◌, ◌-◌, ◌*◌, ◌/◌, ◌%◌}
use Rattle.plug_clock.specs.declared.limits.TheConstants.{CLOCK_PERIOD, PACKET_UNITS}

-- the whole units of the 27 MHz clock that a number of packets takes at a bit rate
abbrev pub units_taken : ℕ → ℕ → ℕ
units_taken bitrate packets = packets * PACKET_UNITS / bitrate

-- by how many units a PCR is ahead of a value of the clock, which wraps at its period
abbrev pub units_after : ℕ → ℕ → ℕ
units_after wanted clock = (clock + (CLOCK_PERIOD - wanted % CLOCK_PERIOD)) % CLOCK_PERIOD

-- the clock at a position of a stream of a constant bit rate, given the clock of its first packet
abbrev pub clock_at : ℕ → ℕ → ℕ → ℕ
clock_at bitrate start position = (start + units_taken bitrate position) % CLOCK_PERIOD

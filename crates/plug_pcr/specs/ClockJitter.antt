-- How far a PCR is from the value expected at a constant bit rate. This project's own rule, over the
-- program_clock_reference of ISO/IEC 13818-1, 2.4.3.5.
use Rattle.std.specs.Prelude.{ℕ, ◌+◌, ◌-◌, nat_le, if◌then◌else◌}
use Rattle.plug_clock.specs.ClockUnits.{units_after, units_taken}
use Rattle.plug_clock.specs.declared.limits.TheConstants.{CLOCK_PERIOD}

-- a number of units forwards, or the rest of the period backwards, whichever is less
abbrev pub least_way : ℕ → ℕ
least_way units = if nat_le units (CLOCK_PERIOD - units) then units else CLOCK_PERIOD - units

-- the jitter of a PCR some packets after another one: its distance from that one plus the units of these packets
abbrev pub jitter_of : ℕ → ℕ → ℕ → ℕ → ℕ
jitter_of bitrate packets before clock = least_way (units_after (before + units_taken bitrate packets) clock)

-- Worked rows of the clock, computed on the definitions. Packets of twelve bytes are enough here.
use Rattle.std.proofs.Common.{◌≡◌, ℕ, ◌+◌, ◌-◌, ◌/◌, ◌%◌, List, [], ◌∷◌, ◌++◌, map, replicate, None, Some, refl}
use Rattle.ts_bit_rows.specs.BitRow.{bit_of, field}
use Rattle.ts_packet.specs.declared.cell.Cell.{Cell}
use Rattle.ts_packet.specs.Cells.{Live, Dropped}
use Rattle.ts_packet.specs.Adaptation.{adaptation_length_of, discontinuity_of}
use Rattle.ts_packet.specs.Pcr.{clock_bytes, clock_of, has_pcr_of, pcr_of}
use Rattle.plug_clock.specs.declared.limits.TheConstants.{CLOCK_PERIOD, CLOCK_RATE}
use Rattle.plug_clock.specs.declared.limits.TheConstants.{LONGEST_GAP, MOST_UNITS}
use Rattle.plug_clock.specs.LineClock.{line_time}
use Rattle.plug_clock.specs.StreamClock.{clock_after, clock_met, milliseconds_of, step_time}

-- a packet on PID 256 or 257 with this PCR, with the discontinuity_indicator too, and with the transport_error_indicator
abbrev pcr : ℕ → ℕ → Cell
pcr pid clock = Live (0x47 ∷ 0x01 ∷ (pid - 256) ∷ 0x30 ∷ 7 ∷ 0x10 ∷ clock_bytes (clock / 300) (clock % 300)) 0

abbrev flagged : ℕ → Cell
flagged clock = Live (0x47 ∷ 0x01 ∷ 0x00 ∷ 0x30 ∷ 7 ∷ 0x90 ∷ clock_bytes (clock / 300) (clock % 300)) 0

abbrev spoiled : ℕ → Cell
spoiled clock = Live (0x47 ∷ 0x81 ∷ 0x00 ∷ 0x30 ∷ 7 ∷ 0x10 ∷ clock_bytes (clock / 300) (clock % 300)) 0

-- a packet without a PCR
abbrev bare : Cell
bare = Live (0x47 ∷ 0x01 ∷ 0x2C ∷ 0x10 ∷ []) 0

-- four PCRs in steps of a quarter of a second
abbrev quarters : List Cell
quarters = pcr 256 1000 ∷ bare ∷ pcr 256 6751000 ∷ bare ∷ pcr 256 13501000 ∷ bare ∷ []

numbers : (CLOCK_RATE ∷ LONGEST_GAP ∷ MOST_UNITS ∷ []) ≡ 27000000 ∷ 100000 ∷ 4611686018427387904 ∷ []
numbers = refl

-- the clock begins with the first PCR and jumps at each one
begins : step_time None (bare ∷ pcr 256 1000 ∷ bare ∷ []) ≡ 0
unfolding clock_after clock_met pcr_of field bit_of adaptation_length_of discontinuity_of has_pcr_of clock_of
begins = refl

jumps : step_time None quarters ≡ 13500000
unfolding clock_after clock_met pcr_of field bit_of adaptation_length_of discontinuity_of has_pcr_of clock_of
jumps = refl

half-a_second : milliseconds_of (step_time None quarters) ≡ 500
unfolding clock_after clock_met pcr_of field bit_of adaptation_length_of discontinuity_of has_pcr_of clock_of
half-a_second = refl

-- over the end of the period
around : step_time None (pcr 256 (CLOCK_PERIOD - 1000) ∷ pcr 256 2000 ∷ []) ≡ 3000
unfolding clock_after clock_met pcr_of field bit_of adaptation_length_of discontinuity_of has_pcr_of clock_of
around = refl

-- a PCR behind the one before: a joint of two positions, which four positions took 13,500,000 units for before
behind : step_time None (quarters ++ pcr 256 400 ∷ bare ∷ pcr 256 500 ∷ []) ≡ 13500000 + 6750000 + 100
unfolding clock_after clock_met pcr_of field bit_of adaptation_length_of discontinuity_of has_pcr_of clock_of
behind = refl

-- so is the same PCR again, one more than a second later, and one with the discontinuity_indicator
again : step_time None (quarters ++ pcr 256 13501000 ∷ []) ≡ 13500000 + 6750000
unfolding clock_after clock_met pcr_of field bit_of adaptation_length_of discontinuity_of has_pcr_of clock_of
again = refl

ahead : step_time None (quarters ++ pcr 256 40501001 ∷ []) ≡ 13500000 + 6750000
unfolding clock_after clock_met pcr_of field bit_of adaptation_length_of discontinuity_of has_pcr_of clock_of
ahead = refl

not-ahead : step_time None (quarters ++ pcr 256 40501000 ∷ []) ≡ 13500000 + 27000000
unfolding clock_after clock_met pcr_of field bit_of adaptation_length_of discontinuity_of has_pcr_of clock_of
not-ahead = refl

marked : step_time None (quarters ++ flagged 13501001 ∷ []) ≡ 13500000 + 6750000
unfolding clock_after clock_met pcr_of field bit_of adaptation_length_of discontinuity_of has_pcr_of clock_of
marked = refl

-- the mean is that of all steps: 6,750,000 units in 2 positions and 750,000 in 8 are 750,000 a position
mean : step_time None (pcr 256 0 ∷ bare ∷ pcr 256 6750000 ∷ (replicate 7 bare ++ pcr 256 7500000 ∷ bare ∷ pcr 256 5 ∷ [])) ≡ 7500000 + 1500000
unfolding clock_after clock_met pcr_of field bit_of adaptation_length_of discontinuity_of has_pcr_of clock_of
mean = refl

-- before any step a joint takes no time
no-step : step_time None (pcr 256 5 ∷ bare ∷ pcr 256 0 ∷ []) ≡ 0
unfolding clock_after clock_met pcr_of field bit_of adaptation_length_of discontinuity_of has_pcr_of clock_of
no-step = refl

-- a dropped cell has a position; a PCR of a packet with a transport error is none
dropped-cells : step_time None (pcr 256 0 ∷ pcr 256 1000 ∷ Dropped ∷ Dropped ∷ flagged 7 ∷ []) ≡ 1000 + 3000
unfolding clock_after clock_met pcr_of field bit_of adaptation_length_of discontinuity_of has_pcr_of clock_of
dropped-cells = refl

with-errors : step_time None (pcr 256 0 ∷ spoiled 500 ∷ pcr 256 1000 ∷ spoiled 5000 ∷ []) ≡ 1000
unfolding clock_after clock_met pcr_of field bit_of adaptation_length_of discontinuity_of has_pcr_of clock_of
with-errors = refl

-- the clock of another PID, which is asked for
asked : step_time (Some 257) (pcr 256 0 ∷ pcr 256 500 ∷ pcr 257 5 ∷ pcr 257 205 ∷ []) ≡ 200
unfolding clock_after clock_met pcr_of field bit_of adaptation_length_of discontinuity_of has_pcr_of clock_of
asked = refl

-- with 27,000,000 units in one position, two seconds are two positions: the PCR of another PID three positions later is read,
-- and from there on those of this PID alone
changed : step_time None (pcr 256 0 ∷ pcr 256 27000000 ∷ pcr 257 0 ∷ pcr 257 0 ∷ pcr 257 0 ∷ pcr 256 27000001 ∷ pcr 257 100 ∷ []) ≡ 27000000 + 81000000 + 100
unfolding clock_after clock_met pcr_of field bit_of adaptation_length_of discontinuity_of has_pcr_of clock_of
changed = refl

-- a PID that is asked for is kept
kept : step_time (Some 256) (pcr 256 0 ∷ pcr 256 27000000 ∷ pcr 257 0 ∷ pcr 257 0 ∷ pcr 257 0 ∷ pcr 257 100 ∷ []) ≡ 27000000
unfolding clock_after clock_met pcr_of field bit_of adaptation_length_of discontinuity_of has_pcr_of clock_of
kept = refl

-- the line clock: 0 up to the first PCR, between two in proportion to the positions, known with the next one alone
between : map (line_time None (bare ∷ pcr 256 0 ∷ bare ∷ bare ∷ pcr 256 1000 ∷ bare ∷ [])) (0 ∷ 1 ∷ 2 ∷ 3 ∷ 4 ∷ 5 ∷ [])
    ≡ Some 0 ∷ Some 0 ∷ Some 333 ∷ Some 666 ∷ Some 1000 ∷ None ∷ []
unfolding clock_met pcr_of field bit_of adaptation_length_of discontinuity_of has_pcr_of clock_of
between = refl

-- Worked rows of `timestamps`, computed on the definitions.
use Rattle.std.proofs.Common.{◌≡◌, List, [], ◌∷◌, None, Some, false, true, codes, refl}
use Rattle.std.specs.Fmt.{digits}
use Rattle.ts_bit_rows.specs.BitRow.{bit_of, field}
use Rattle.plug_times.specs.ClockSteps.{clock_lines, steps_from}
use Rattle.plug_times.specs.PesTimes.{is_marked, no_times, stamp_of, stamp_value, times_in}
use Rattle.plug_times.specs.StampTexts.{shown_of, stamp_texts}
use Rattle.plug_times.specs.declared.stamp.Stamp.{Stamp}

-- a PTS of 90,000: prefix 0010, and 33 bits in three parts
one-second : stamp_of 2 (0x21 ∷ 0x00 ∷ 0x05 ∷ 0xBF ∷ 0x21 ∷ []) ≡ Some 90000
unfolding stamp_of stamp_value is_marked field bit_of
one-second = refl

-- one whose second marker bit is 0
no-marker : stamp_of 2 (0x21 ∷ 0x00 ∷ 0x04 ∷ 0xBF ∷ 0x21 ∷ []) ≡ None
unfolding stamp_of stamp_value is_marked field bit_of
no-marker = refl

-- a PES packet of stream_id 0xE0 with the greatest PTS
greatest-stamp : times_in (0 ∷ 0 ∷ 1 ∷ 0xE0 ∷ 0 ∷ 0 ∷ 0x80 ∷ 0x80 ∷ 5 ∷ 0x2F ∷ 0xFF ∷ 0xFF ∷ 0xFF ∷ 0xFF ∷ [])
    ≡ record { presentation = Some 8589934591; decoding = None }
unfolding stamp_of stamp_value is_marked field bit_of
greatest-stamp = refl

-- a header that is not whole, and a padding stream
cut-header : times_in (0 ∷ 0 ∷ 1 ∷ 0xE0 ∷ 0 ∷ 0 ∷ 0x80 ∷ 0x80 ∷ 5 ∷ 0x2F ∷ 0xFF ∷ 0xFF ∷ 0xFF ∷ []) ≡ no_times
cut-header = refl

padding : times_in (0 ∷ 0 ∷ 1 ∷ 0xBE ∷ 0 ∷ 0 ∷ 0x80 ∷ 0x80 ∷ 5 ∷ 0x2F ∷ 0xFF ∷ 0xFF ∷ 0xFF ∷ 0xFF ∷ []) ≡ no_times
padding = refl

-- PCRs of PID 256: a step of 40 ms, one of 1, one to the discontinuity_indicator, one back by 1
abbrev clocks : List Stamp
clocks = record { at = 0; pid = 256; clock = Some 0; jumps = false; times = no_times }
    ∷ record { at = 1; pid = 256; clock = Some 1080000; jumps = false; times = no_times }
    ∷ record { at = 2; pid = 256; clock = Some 1080001; jumps = false; times = no_times }
    ∷ record { at = 3; pid = 256; clock = Some 5; jumps = true; times = no_times }
    ∷ record { at = 4; pid = 256; clock = Some 4; jumps = false; times = no_times }
    ∷ []

three-steps : steps_from None clocks ≡ 1080000 ∷ 1 ∷ 2576980377599 ∷ []
three-steps = refl

their-line : clock_lines clocks 256 ≡ codes "pid 256 pcrs 5 longest 95443717688 over40 1 over100 1" ∷ []
unfolding digits
their-line = refl

-- what is said of a stamp: all values where none is asked for, and one kind between commas
abbrev stamp : Stamp
stamp = record { at = 7; pid = 258; clock = Some 300; jumps = false; times = record { presentation = Some 90000; decoding = None } }

all-values : stamp_texts (shown_of false false false false) stamp ≡ codes "packet 7 pid 258 pcr 300" ∷ codes "packet 7 pid 258 pts 90000" ∷ []
unfolding digits
all-values = refl

one-kind : stamp_texts (shown_of false true false true) stamp ≡ codes "7,258,pts,90000" ∷ []
unfolding digits
one-kind = refl

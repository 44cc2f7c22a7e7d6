-- Worked rows of `rate`, computed on the definitions. Packets of twelve bytes are enough here.
use Rattle.std.proofs.Common.{◌≡◌, ℕ, ◌-◌, ◌/◌, ◌%◌, List, [], ◌∷◌, map, true, false, Option, None, Some, codes, refl}
use Rattle.std.specs.Fmt.{digits}
use Rattle.std.specs.List.{flat_map}
use Rattle.ts_bit_rows.specs.BitRow.{bit_of, field}
use Rattle.ts_packet.specs.declared.cell.Cell.{Cell}
use Rattle.ts_packet.specs.Cells.{Live, Dropped}
use Rattle.ts_packet.specs.Adaptation.{adaptation_length_of, discontinuity_of}
use Rattle.ts_packet.specs.Pcr.{clock_bytes, clock_of, has_pcr_of, pcr_of}
use Rattle.plug_clock.specs.StreamClock.{clock_after, clock_met}
use Rattle.plug_rate.specs.Bounds.{verdict_of}
use Rattle.plug_rate.specs.Measures.{judged_in}
use Rattle.plug_rate.specs.Rates.{has_passed, nearest, rate_of}
use Rattle.plug_rate.specs.RateRule.{rate_rule}
use Rattle.plug_rate.specs.RateTexts.{summary_of_rates, texts_of}
use Rattle.plug_rate.specs.declared.rate_conf.RateConf.{RateConf}
use Rattle.plug_rate.specs.declared.verdict.Verdict.TheVariants.{Within, Again, Low, High}

-- a packet on PID 256 with this PCR, and one without a PCR on PID 300
abbrev pcr : ℕ → Cell
pcr clock = Live (0x47 ∷ 0x01 ∷ 0x00 ∷ 0x30 ∷ 7 ∷ 0x10 ∷ clock_bytes (clock / 300) (clock % 300)) 0

abbrev bare : Cell
bare = Live (0x47 ∷ 0x01 ∷ 0x2C ∷ 0x10 ∷ []) 0

-- the settings with an interval, the PIDs and the bounds
abbrev conf : ℕ → List (ℕ × ℕ) → Option ℕ → Option ℕ → RateConf
conf interval pids least most = record { interval = interval; pid = pids; bounds = record { least = least; most = most }; pcr_pid = None }

abbrev unbounded : ℕ → RateConf
unbounded interval = conf interval [] None None

-- ---- numbers

-- to the nearest, half up: 2.5, 2.4 and 2.6
rounding : (nearest 5 2 ∷ nearest 12 5 ∷ nearest 13 5 ∷ []) ≡ 3 ∷ 2 ∷ 3 ∷ []
rounding = refl

-- 50 packets in half a second, and two in 8,100,011 units, which are 10,026.65
rates : (rate_of 50 13500000 ∷ rate_of 2 8100011 ∷ rate_of 0 1 ∷ []) ≡ 150400 ∷ 10027 ∷ 0 ∷ []
rates = refl

-- an interval of a second passes with its last unit
passing : (has_passed 1000 0 26999999 ∷ has_passed 1000 26999999 27000000 ∷ has_passed 1000 27000000 53999999 ∷ has_passed 1000 27000000 99000000 ∷ [])
    ≡ false ∷ true ∷ false ∷ true ∷ []
passing = refl

-- bounds of 5 and 8: 4, 5, 8, 9 after one within, and 5 after one outside
bounded : map (verdict_of (record { least = Some 5; most = Some 8 }) false) (4 ∷ 5 ∷ 8 ∷ 9 ∷ []) ≡ Low ∷ Within ∷ Within ∷ High ∷ []
bounded = refl

back : verdict_of (record { least = Some 5; most = Some 8 }) true 5 ≡ Again
back = refl

-- ---- streams

-- what is measured in a stream with these settings: lines and summary
abbrev lines : RateConf → List Cell → List (List ℕ)
lines conf cells = flat_map texts_of (judged_in conf cells)

-- three tenths of a second pass with the second PCR; its packet is not counted
three-tenths : lines (unbounded 300) (pcr 0 ∷ bare ∷ pcr 8100011 ∷ bare ∷ []) ≡ codes "packet 2 time 300 bitrate 10027" ∷ []
unfolding clock_after clock_met pcr_of field bit_of adaptation_length_of discontinuity_of has_pcr_of clock_of digits
three-tenths = refl

-- three intervals of 100 ms pass with it, and have one line; with one of 400 ms there is none
three-at_once : lines (unbounded 100) (pcr 0 ∷ bare ∷ pcr 8100011 ∷ bare ∷ []) ≡ codes "packet 2 time 300 bitrate 10027" ∷ []
unfolding clock_after clock_met pcr_of field bit_of adaptation_length_of discontinuity_of has_pcr_of clock_of digits
three-at_once = refl

too-long : lines (unbounded 400) (pcr 0 ∷ bare ∷ pcr 8100011 ∷ bare ∷ []) ≡ []
unfolding clock_after clock_met pcr_of field bit_of adaptation_length_of discontinuity_of has_pcr_of clock_of digits
too-long = refl

-- packets before the first PCR are not counted, nor are dropped ones, nor those of other PIDs
before-first : lines (unbounded 300) (bare ∷ bare ∷ pcr 0 ∷ Dropped ∷ pcr 8100000 ∷ []) ≡ codes "packet 4 time 300 bitrate 5013" ∷ []
unfolding clock_after clock_met pcr_of field bit_of adaptation_length_of discontinuity_of has_pcr_of clock_of digits
before-first = refl

of-pid_300 : lines (conf 300 ((300, 300) ∷ []) None None) (pcr 0 ∷ bare ∷ pcr 8100000 ∷ []) ≡ codes "packet 2 time 300 bitrate 5013" ∷ []
unfolding clock_after clock_met pcr_of field bit_of adaptation_length_of discontinuity_of has_pcr_of clock_of digits
of-pid_300 = refl

-- with bounds, of rates of 10,027, 5,013, 10,027 and 10,027 the first is right, the second is told, and the third again
abbrev four : List Cell
four = pcr 0 ∷ bare ∷ pcr 8100000 ∷ pcr 16200000 ∷ bare ∷ pcr 24300000 ∷ bare ∷ pcr 32400000 ∷ []

told : lines (conf 300 [] (Some 10000) None) four
    ≡ codes "packet 3 time 600 bitrate 5013 low" ∷ codes "packet 5 time 900 bitrate 10027 again" ∷ []
unfolding clock_after clock_met pcr_of field bit_of adaptation_length_of discontinuity_of has_pcr_of clock_of digits
told = refl

-- the summary has all of them
summed : summary_of_rates (judged_in (conf 300 [] (Some 10000) None) four) ≡ codes "measured 4 least 5013 greatest 10027"
unfolding clock_after clock_met pcr_of field bit_of adaptation_length_of discontinuity_of has_pcr_of clock_of digits
summed = refl

nothing : summary_of_rates (judged_in (unbounded 1000) (bare ∷ bare ∷ [])) ≡ codes "measured 0 least none greatest none"
unfolding clock_after clock_met pcr_of field bit_of adaptation_length_of discontinuity_of has_pcr_of clock_of digits
nothing = refl

-- a rate outside of the bounds is a fault
faults : (rate_rule (conf 300 [] (Some 10000) None)).has_fault four ≡ true
unfolding clock_after clock_met pcr_of field bit_of adaptation_length_of discontinuity_of has_pcr_of clock_of
faults = refl

no-faults : (rate_rule (conf 300 [] (Some 5000) (Some 10027))).has_fault four ≡ false
unfolding clock_after clock_met pcr_of field bit_of adaptation_length_of discontinuity_of has_pcr_of clock_of
no-faults = refl

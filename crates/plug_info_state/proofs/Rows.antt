-- Worked rows of the bit rate and of EIT sections, computed on the definitions. Packets of twelve bytes, and the first five
-- of a section, are enough here.
use Rattle.std.proofs.Common.{◌≡◌, ℕ, ◌-◌, ◌/◌, ◌%◌, List, [], ◌∷◌, codes, length, true, false, refl, Option, None, Some}
use Rattle.std.specs.List.{fold}
use Rattle.std.specs.Fmt.{digits}
use Rattle.ts_bit_rows.specs.BitRow.{bit_of, field}
use Rattle.ts_packet.specs.declared.cell.Cell.{Cell}
use Rattle.ts_packet.specs.Cells.{Live, Dropped, live_packets}
use Rattle.ts_packet.specs.Adaptation.{adaptation_length_of, discontinuity_of}
use Rattle.ts_packet.specs.Pcr.{clock_bytes, clock_of, has_pcr_of}
use Rattle.plug_clock.specs.ClockUnits.{units_after}
use Rattle.plug_clock.specs.declared.limits.TheConstants.{CLOCK_PERIOD}
use Rattle.plug_info_texts.specs.InfoTexts.{portion_text}
use Rattle.plug_info_texts.specs.Rounding.{rounded}
use Rattle.plug_info_texts.specs.declared.scene.Scene.{Scene}
use Rattle.plug_info_texts.specs.declared.eit_numbers.EitNumbers.{EitNumbers}
use Rattle.plug_info_state.specs.EitSections.{eit_in, up_to_end}
use Rattle.plug_info_state.specs.PacketExtent.{extent_of}
use Rattle.plug_info_state.specs.PcrRate.{breaks_in, has_part, rate_on, rate_over, ways_on, wider_of}

-- 90 positions in a hundredth of a second, and in three units more; without units and beyond the limit there is no rate
rate-row : rate_over 90 270000 ≡ Some 13536000
unfolding rounded
rate-row = refl

rate-nearest : rate_over 90 270003 ≡ Some 13535850
unfolding rounded
rate-nearest = refl

rate-none : rate_over 90 0 ≡ None
rate-none = refl

rate-beyond : rate_over 90 1 ≡ None
unfolding rounded
rate-beyond = refl

-- a PCR that wraps to 0
wrap-row : units_after 2576980377500 200 ≡ 300
wrap-row = refl

-- a second ahead has a part; one unit more, no unit, a unit back and a new time base have none
second-row : has_part false 27000000 ≡ true
second-row = refl

gap-row : has_part false 27000001 ≡ false
gap-row = refl

still-row : has_part false 0 ≡ false
still-row = refl

back-row : has_part false (units_after 7000 6999) ≡ false
back-row = refl

base-row : has_part true 3000 ≡ false
base-row = refl

-- a packet on PID 256 with a PCR, and one on PID 257 without
abbrev clocked : ℕ → Cell
clocked clock = Live (0x47 ∷ 0x01 ∷ 0x00 ∷ 0x30 ∷ 7 ∷ 0x10 ∷ clock_bytes (clock / 300) (clock % 300)) 0

abbrev bare : Cell
bare = Live (0x47 ∷ 0x01 ∷ 0x01 ∷ 0x10 ∷ []) 0

-- what shares and bit rates are parts of, by the clock of PID 256
abbrev seen : List Cell → Scene
seen cells = record { whole = length (live_packets cells); extent = extent_of cells; rate = rate_on 256 cells }

-- 13,536,000 bits in a second: a packet takes 3000 units, and two of four have half of the rate
all-live : portion_text (seen (clocked 7000 ∷ bare ∷ bare ∷ clocked 16000 ∷ [])) 2 ≡ codes " packets 2 share 50.00% bitrate 6768000"
unfolding digits rounded field bit_of adaptation_length_of discontinuity_of has_pcr_of clock_of
all-live = refl

-- one of these two was dropped: the other one has as many bits in the same time as before, and a third of the packets
through-drop : portion_text (seen (clocked 7000 ∷ Dropped ∷ bare ∷ clocked 16000 ∷ [])) 1 ≡ codes " packets 1 share 33.33% bitrate 3384000"
unfolding digits rounded field bit_of adaptation_length_of discontinuity_of has_pcr_of clock_of
through-drop = refl

-- what was dropped before the first packet and after the last one takes no time
dropped-ends : portion_text (seen (Dropped ∷ clocked 7000 ∷ bare ∷ clocked 13000 ∷ Dropped ∷ Dropped ∷ [])) 3 ≡ codes " packets 3 share 100.00% bitrate 13536000"
unfolding digits rounded field bit_of adaptation_length_of discontinuity_of has_pcr_of clock_of
dropped-ends = refl

-- the clock wraps, with a packet dropped there: those that are left have three quarters of the rate
through-wrap : portion_text (seen (clocked (CLOCK_PERIOD - 3000) ∷ Dropped ∷ bare ∷ clocked 6000 ∷ [])) 3 ≡ codes " packets 3 share 100.00% bitrate 10152000"
unfolding digits rounded field bit_of adaptation_length_of discontinuity_of has_pcr_of clock_of
through-wrap = refl

-- two streams are joined, and the clock jumps back there: the rate is that of both
joined-streams : portion_text (seen (clocked 907000 ∷ clocked 910000 ∷ clocked 7000 ∷ clocked 10000 ∷ [])) 1 ≡ codes " packets 1 share 25.00% bitrate 3384000"
unfolding digits rounded field bit_of adaptation_length_of discontinuity_of has_pcr_of clock_of
joined-streams = refl

-- what is counted of the ways on PID 256
abbrev told : List Cell → Option ℕ × ℕ
told cells = (rate_on 256 cells, breaks_in (ways_on 256 cells))

-- a PCR five hours ahead: the ways to it and from it are left out, and the rate is that of the others
ahead-row : told (clocked 7000 ∷ clocked 10000 ∷ clocked 486000013000 ∷ clocked 16000 ∷ clocked 19000 ∷ []) ≡ (Some 13536000, 2)
unfolding rounded field bit_of adaptation_length_of discontinuity_of has_pcr_of clock_of
ahead-row = refl

-- a gap of more than a second
missing-row : told (clocked 7000 ∷ clocked 10000 ∷ clocked 27010001 ∷ clocked 27013001 ∷ []) ≡ (Some 13536000, 1)
unfolding rounded field bit_of adaptation_length_of discontinuity_of has_pcr_of clock_of
missing-row = refl

-- a clock that stands still has no rate
still-clock : told (clocked 7000 ∷ clocked 7000 ∷ []) ≡ (None, 1)
unfolding rounded field bit_of adaptation_length_of discontinuity_of has_pcr_of clock_of
still-clock = refl

-- the PCR of a damaged packet is passed over: the way goes from the one before it to the one behind it
abbrev damaged : ℕ → Cell
damaged clock = Live (0x47 ∷ 0x81 ∷ 0x00 ∷ 0x30 ∷ 7 ∷ 0x10 ∷ clock_bytes (clock / 300) (clock % 300)) 0

damaged-row : told (clocked 7000 ∷ damaged 486000010000 ∷ clocked 13000 ∷ []) ≡ (Some 13536000, 0)
unfolding rounded field bit_of adaptation_length_of discontinuity_of has_pcr_of clock_of
damaged-row = refl

-- PID 257 covers two positions more than PID 256; of two that cover as many the least counts, and without spans none
abbrev other : ℕ → Cell
other clock = Live (0x47 ∷ 0x01 ∷ 0x01 ∷ 0x30 ∷ 7 ∷ 0x10 ∷ clock_bytes (clock / 300) (clock % 300)) 0

widest-row : fold (wider_of (other 7000 ∷ clocked 10000 ∷ clocked 13000 ∷ other 16000 ∷ [])) None (255 ∷ 256 ∷ 257 ∷ []) ≡ Some 257
unfolding field bit_of adaptation_length_of discontinuity_of has_pcr_of clock_of
widest-row = refl

least-row : fold (wider_of (other 7000 ∷ clocked 7000 ∷ other 10000 ∷ clocked 10000 ∷ [])) None (255 ∷ 256 ∷ 257 ∷ []) ≡ Some 256
unfolding field bit_of adaptation_length_of discontinuity_of has_pcr_of clock_of
least-row = refl

nowhere-row : fold (wider_of (other 7000 ∷ clocked 7000 ∷ [])) None (255 ∷ 256 ∷ 257 ∷ []) ≡ None
unfolding field bit_of adaptation_length_of discontinuity_of has_pcr_of clock_of
nowhere-row = refl

-- a section of the long form
abbrev section : ℕ → ℕ → List ℕ
section table_id id = table_id ∷ 0xF0 ∷ 0x0F ∷ id / 256 ∷ id % 256 ∷ []

abbrev numbers : ℕ → ℕ → EitNumbers
numbers present schedule = record { present = present; schedule = schedule }

-- two sections of the present event, and the first and the last table_id of the schedule; those of other transport
-- streams and of other services are not counted
eit-row : eit_in 257 (section 0x4E 257 ∷ section 0x4F 257 ∷ section 0x50 257 ∷ section 0x5F 257 ∷ section 0x60 257 ∷ section 0x4E 1 ∷ section 0x4E 257 ∷ []) ≡ numbers 2 2
unfolding field bit_of
eit-row = refl

-- a section of the short form has no number of a service
short-row : eit_in 257 ((0x4E ∷ 0x70 ∷ 0x02 ∷ 1 ∷ 1 ∷ []) ∷ []) ≡ numbers 0 0
unfolding field bit_of
short-row = refl

-- a count stands still at the end of 64 bits
end-row : up_to_end 18446744073709551616 ≡ 18446744073709551615
end-row = refl

last-row : up_to_end 18446744073709551614 ≡ 18446744073709551614
last-row = refl

-- Worked rows of the rule, computed on its definitions; packets of four or twelve bytes are enough here.
use Rattle.std.proofs.Common.{◌≡◌, ℕ, List, [], ◌∷◌, true, false, refl, Some, lit≤}
use Rattle.ts_bit_rows.specs.BitRow.{bit_of, field}
use Rattle.ts_packet.specs.Adaptation.{adaptation_length_of}
use Rattle.ts_packet.specs.Cells.{Live, Dropped}
use Rattle.ts_packet.specs.Packet.{null_packet}
use Rattle.ts_packet.specs.Pcr.{clock_of, has_pcr_of, pcr_of, with_pcr}
use Rattle.chain_model.specs.declared.reason.Reason.TheVariants.{Pid}
use Rattle.chain_model.specs.Apply.{apply, refused}
use Rattle.plug_restuff.specs.MovedClock.{moved_clock, moved_packet}
use Rattle.plug_restuff.specs.RestuffRule.{restuff_rule}
use Rattle.plug_restuff.specs.RestuffSettings.{IsValidRestuff}
use Rattle.plug_restuff.specs.Slots.{is_slot, slots_before}
use Rattle.plug_restuff.specs.declared.restuff_conf.RestuffConf.{RestuffConf}

abbrev conf : ℕ → ℕ → ℕ → RestuffConf
conf from to window = record { from = from; to = to; window = window }

-- from 2,000 to 1,000 each second cell is a slot, from 3,000 to 2,000 two of three
halves : is_slot 2000 1000 0 ∷ is_slot 2000 1000 1 ∷ is_slot 2000 1000 2 ∷ is_slot 2000 1000 3 ∷ [] ≡ false ∷ true ∷ false ∷ true ∷ []
halves = refl

thirds : is_slot 3000 2000 0 ∷ is_slot 3000 2000 1 ∷ is_slot 3000 2000 2 ∷ is_slot 3000 2000 3 ∷ [] ≡ false ∷ true ∷ true ∷ false ∷ []
thirds = refl

-- cell 20 is slot 13
thirteenth : slots_before 30000 20000 20 ≡ 13
thirteenth = refl

-- a cell takes 1,353,600 units at 30,000 bit/s, a slot 2,030,400 at 20,000
sixth : moved_clock 30000 20000 10 6 13536000 ≡ 12182400
sixth = refl

later : moved_clock 30000 20000 20 13 27072000 ≡ 26395200
later = refl

-- 20,290,468.5 units earlier are rounded to less, and go round the clock
earlier : moved_clock 3001 2000 3 1 0 ≡ 2576960087131
earlier = refl

-- 30,456,000 units later, from the last value of the clock
round : moved_clock 4000 1000 1 1 2576980377599 ≡ 30455999
round = refl

-- packets on PIDs 256, 257 and 8191
abbrev on_256 : List ℕ
on_256 = 0x47 ∷ 0x01 ∷ 0x00 ∷ 0x10 ∷ []

abbrev on_257 : List ℕ
on_257 = 0x47 ∷ 0x01 ∷ 0x01 ∷ 0x10 ∷ []

abbrev on_8191 : List ℕ
on_8191 = 0x47 ∷ 0x1F ∷ 0xFF ∷ 0x10 ∷ []

-- a packet leaves with its labels; a null packet that came is gone, one that is put in has no labels, and a dropped cell is
-- none of the stream's
labels-along : (apply (restuff_rule (conf 2000 1000 10)) (Live on_256 1 ∷ Live on_257 2 ∷ Dropped ∷ Live on_8191 4 ∷ Live on_8191 4 ∷ Live on_8191 4 ∷ Live on_8191 4 ∷ [])).cells
    ≡ Dropped ∷ Live on_256 1 ∷ Dropped ∷ Dropped ∷ Live on_257 2 ∷ Dropped ∷ Live null_packet 0 ∷ []
unfolding field bit_of pcr_of has_pcr_of adaptation_length_of
labels-along = refl

-- where two wait already the third is refused
third-refused : (apply (restuff_rule (conf 4000 1000 2)) (Live on_256 0 ∷ Live on_256 0 ∷ Live on_257 0 ∷ Live on_8191 0 ∷ [])).ended ≡ Some (refused (Pid 257))
unfolding field bit_of pcr_of has_pcr_of adaptation_length_of
third-refused = refl

-- the first of three leaves in the only slot
first-given : (apply (restuff_rule (conf 4000 1000 3)) (Live on_256 0 ∷ Live on_256 0 ∷ Live on_257 0 ∷ Live on_8191 0 ∷ [])).cells
    ≡ Dropped ∷ Dropped ∷ Dropped ∷ Live on_256 0 ∷ []
unfolding field bit_of pcr_of has_pcr_of adaptation_length_of
first-given = refl

-- a PCR of 100 base units, in a packet that leaves 10 base units later; one with transport_error_indicator keeps it
abbrev clocked : ℕ → ℕ → List ℕ
clocked flags low = 0x47 ∷ flags ∷ 0x00 ∷ 0x20 ∷ 0xB7 ∷ 0x10 ∷ 0x00 ∷ 0x00 ∷ 0x00 ∷ low ∷ 0x7E ∷ 0x00 ∷ []

clock-moved : moved_packet 13536000 1000 1 0 (clocked 0x01 50) ≡ clocked 0x01 45
unfolding field bit_of pcr_of has_pcr_of adaptation_length_of clock_of with_pcr
clock-moved = refl

error-stays : moved_packet 13536000 1000 1 0 (clocked 0x81 50) ≡ clocked 0x81 50
unfolding field bit_of pcr_of has_pcr_of adaptation_length_of clock_of with_pcr
error-stays = refl

-- the greatest rates and window
greatest : IsValidRestuff (conf 1000000000 1000000000 100000)
greatest = record { least = lit≤ tt; lower = lit≤ tt; most = lit≤ tt; some_packet = lit≤ tt; bounded = lit≤ tt }

-- Worked rows of the rules, computed on the definitions. Where labels do not matter the items are numbers, of which 0
-- is a null packet; packets of four bytes are enough here.
use Rattle.std.proofs.Common.{◌≡◌, ℕ, ◌==◌, nat_le, ◌||◌, List, [], ◌∷◌, Bool, true, refl, lit≤}
use Rattle.ts_bit_rows.specs.BitRow.{bit_of, field}
use Rattle.ts_packet.specs.Cells.{Live, Dropped}
use Rattle.ts_packet.specs.Packet.{null_packet}
use Rattle.chain_model.specs.Apply.{apply}
use Rattle.plug_window.specs.DelayRule.{all_given}
use Rattle.plug_window.specs.CompactRule.{compacted, blocks_parted, compact_rule}
use Rattle.plug_window.specs.RmorphanRule.{delayed, rmorphan_rule}
use Rattle.plug_window.specs.WindowSettings.{IsValidWindow, plain_window}

abbrev null : ℕ → Bool
null x = x == 0

-- `compact --window 3`: two blocks of three, followed by three null packets
two-blocks : all_given (compacted null 3) [] (256 ∷ 0 ∷ 257 ∷ 0 ∷ 0 ∷ 256 ∷ 0 ∷ 0 ∷ 0 ∷ []) ≡ 256 ∷ 257 ∷ 0 ∷ 256 ∷ 0 ∷ 0 ∷ []
two-blocks = refl

-- they are the two blocks, each with its null packets last
two-parted : blocks_parted null 3 2 (256 ∷ 0 ∷ 257 ∷ 0 ∷ 0 ∷ 256 ∷ []) ≡ 256 ∷ 257 ∷ 0 ∷ 256 ∷ 0 ∷ 0 ∷ []
two-parted = refl

-- of the last block only as many are output as packets come after it
part-given : all_given (compacted null 3) [] (0 ∷ 256 ∷ 257 ∷ 258 ∷ 0 ∷ []) ≡ 256 ∷ 257 ∷ []
part-given = refl

-- `compact --window 1` outputs every packet one later
one-later : all_given (compacted null 1) [] (0 ∷ 256 ∷ 0 ∷ 257 ∷ []) ≡ 0 ∷ 256 ∷ 0 ∷ []
one-later = refl

-- the third item and all after it refer to 300; 1 and 2 are always referred to
abbrev keeps : List ℕ → ℕ → Bool
keeps (a ∷ (b ∷ (c ∷ rest))) x = nat_le x 2 || x == 300
keeps _ x = nat_le x 2

-- `rmorphan --window 3`: the third item comes within the window of the first one
three-later : all_given (delayed keeps 3) [] (300 ∷ 1 ∷ 2 ∷ 300 ∷ 301 ∷ 0 ∷ 0 ∷ 0 ∷ []) ≡ 300 ∷ 1 ∷ 2 ∷ 300 ∷ []
three-later = refl

-- `rmorphan --window 1`: it does not
too-late : all_given (delayed keeps 1) [] (300 ∷ 1 ∷ 2 ∷ 300 ∷ 301 ∷ 0 ∷ []) ≡ 1 ∷ 2 ∷ 300 ∷ []
too-late = refl

-- packets on PIDs 16, 256 and 257, and a null packet with a payload of its own
abbrev on_16 : List ℕ
on_16 = 0x47 ∷ 0x00 ∷ 0x10 ∷ 0x10 ∷ []

abbrev on_256 : List ℕ
on_256 = 0x47 ∷ 0x01 ∷ 0x00 ∷ 0x10 ∷ []

abbrev on_257 : List ℕ
on_257 = 0x47 ∷ 0x01 ∷ 0x01 ∷ 0x10 ∷ []

abbrev on_8191 : List ℕ
on_8191 = 0x47 ∷ 0x1F ∷ 0xFF ∷ 0x10 ∷ []

-- `compact --window 2`: a dropped cell is no packet and keeps its place, and a packet takes its labels along
labels-taken_along : (apply (compact_rule (plain_window 2)) (Live on_8191 1 ∷ Live on_256 2 ∷ Dropped ∷ Live on_257 4 ∷ Live on_8191 8 ∷ [])).cells
    ≡ Dropped ∷ Dropped ∷ Dropped ∷ Live on_256 2 ∷ Live on_8191 1 ∷ []
unfolding field bit_of
labels-taken_along = refl

-- with `--stuffing` a null packet that is put in keeps the labels of its place
labels-left : (apply (compact_rule (record (plain_window 2) { stuffing = true })) (Live on_8191 1 ∷ Live on_256 2 ∷ Dropped ∷ Live on_257 4 ∷ Live on_8191 8 ∷ [])).cells
    ≡ Live null_packet 1 ∷ Live null_packet 2 ∷ Dropped ∷ Live on_256 2 ∷ Live on_8191 1 ∷ []
unfolding field bit_of
labels-left = refl

-- `rmorphan --window 1`, with PIDs that need no table to refer to them
fixed-given : (apply (rmorphan_rule (plain_window 1)) (Live on_16 1 ∷ Dropped ∷ Live on_8191 2 ∷ Live on_256 4 ∷ [])).cells
    ≡ Dropped ∷ Dropped ∷ Live on_16 1 ∷ Live on_8191 2 ∷ []
unfolding field bit_of
fixed-given = refl

-- the largest window has 100,000 packets
most-packets : IsValidWindow (plain_window 100000)
most-packets = record { some_packet = lit≤ tt; bounded = lit≤ tt }

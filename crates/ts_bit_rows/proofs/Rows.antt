-- Worked rows: the definitions computed on the null packet's head, 47 1F FF 10.
use Rattle.std.proofs.Common.{◌≡◌, ℕ, ◌+◌, List, [], ◌∷◌, refl}
use Rattle.ts_bit_rows.specs.BitRow.{bit_of, field}

abbrev null_head : List ℕ
null_head = 0x47 ∷ 0x1F ∷ 0xFF ∷ 0x10 ∷ []

-- the 13 bits from place 11 on are the PID 8191
pid-of-null : field null_head 11 13 ≡ 8191
unfolding field bit_of
pid-of-null = refl

-- the two bits from place 26 on are the adaptation field control 01
control-of-null : field null_head 26 2 ≡ 1
unfolding field bit_of
control-of-null = refl

-- the first bit of 47 is 0, the second is 1
first-bits : bit_of null_head 0 + bit_of null_head 1 ≡ 1
unfolding bit_of
first-bits = refl

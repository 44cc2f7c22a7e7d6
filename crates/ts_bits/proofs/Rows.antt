-- Worked rows: the definitions computed.
use Rattle.std.proofs.Common.{◌≡◌, ◌∷◌, [], Ok, Err, refl}
use Rattle.ts_bit_rows.specs.BitRow.{bit_of, field}
use Rattle.ts_bits.specs.Decimal.{decimal, packed}
use Rattle.ts_bits.specs.DescriptorLoop.{descriptors_from, descriptors_of}
use Rattle.ts_bits.specs.TaggedBody.{loop_bytes}

-- the duration 01 45 30 is one hour, 45 minutes and 30 seconds
duration : decimal (0x01 ∷ 0x45 ∷ 0x30 ∷ []) 0 6 ≡ 14530
unfolding decimal field bit_of
duration = refl

-- and 14530 is written as those half-bytes
half-bytes : packed 6 14530 ≡ 0x014530
unfolding packed
half-bytes = refl

-- a CA descriptor and an empty one
two-descriptors : loop_bytes (record { tag = 9; body = 0x0B ∷ 0x00 ∷ 0xE1 ∷ 0x00 ∷ [] } ∷ record { tag = 10; body = [] } ∷ []) ≡ 0x09 ∷ 0x04 ∷ 0x0B ∷ 0x00 ∷ 0xE1 ∷ 0x00 ∷ 0x0A ∷ 0x00 ∷ []
two-descriptors = refl

-- read as two descriptors
read-two : descriptors_of (0x09 ∷ 0x02 ∷ 0x0B ∷ 0x00 ∷ 0x0A ∷ 0x00 ∷ []) ≡ Ok (record { tag = 9; body = 0x0B ∷ 0x00 ∷ [] } ∷ record { tag = 10; body = [] } ∷ [])
unfolding descriptors_from
read-two = refl

-- the second one passes the end by a byte
second-cut : descriptors_of (0x0A ∷ 0x00 ∷ 0x52 ∷ 0x02 ∷ 0x00 ∷ []) ≡ Err 2
unfolding descriptors_from
second-cut = refl

-- Bytes as lists of bits.
-- ISO/IEC 13818-1, 2.2.6: bit strings and unsigned integers have their most significant bit first.
use Rattle.std.specs.Prelude.{ℕ, suc, zero, ◌+◌, ◌*◌, ◌/◌, ◌%◌, ◌^◌, List, [], ◌∷◌, length, Bool, true, false, nat_eq}
use Rattle.std.specs.List.{flat_map}

-- the last `count` bits of a number, most significant first
unfoldable pub bits : ℕ → ℕ → List Bool
bits zero value = []
bits (suc count) value = nat_eq (value / 2 ^ count % 2) 1 ∷ bits count value

-- the number of one bit
abbrev pub bit_value : Bool → ℕ
bit_value true = 1
bit_value false = 0

-- the number of a list of bits, most significant first
unfoldable pub number_of : List Bool → ℕ
number_of [] = 0
number_of (b ∷ bs) = bit_value b * 2 ^ length bs + number_of bs

-- the bits of bytes
abbrev pub bits_of : List ℕ → List Bool
bits_of row = flat_map (bits 8) row

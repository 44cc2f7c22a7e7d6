-- The CRC of sections.
-- ISO/IEC 13818-1, Annex A: CRC decoder model.
use Rattle.std.specs.Prelude.{ℕ, ◌+◌, ◌-◌, ◌*◌, ◌^◌, List, length, suc, zero}
use Rattle.std.specs.Int.{bit_at}
use Rattle.std.specs.Int.RustNames.{bit_xor}
use Rattle.ts_bit_rows.specs.BitRow.{field}

-- x^32 + x^26 + x^23 + x^22 + x^16 + x^12 + x^11 + x^10 + x^8 + x^7 + x^5 + x^4 + x^2 + x + 1
abbrev pub polynomial : ℕ
polynomial = 0x104C11DB7

-- The remainder of a row of `places` bits and 32 more, taken as one number, in a long division
-- modulo 2 by the polynomial: from the highest place down, where the row has a one, the polynomial
-- is subtracted there.
unfoldable pub remainder : ℕ → ℕ → ℕ
remainder zero row = row
remainder (suc places) row = remainder places (bit_xor row (bit_at row (places + 32) * (polynomial * 2 ^ places)))

-- the bits of the bytes followed by 32 zero bits, with the first 32 bits of that row inverted
unfoldable pub divided_row : List ℕ → ℕ
divided_row bytes =
    let places = 8 * length bytes in bit_xor (field bytes 0 places * 2 ^ 32) ((2 ^ 32 - 1) * 2 ^ places)

-- the CRC of a row of bytes
unfoldable pub crc_of : List ℕ → ℕ
crc_of bytes = remainder (8 * length bytes) (divided_row bytes)

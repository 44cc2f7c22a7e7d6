-- Worked rows: the definitions computed.
use Rattle.std.proofs.Common.{◌≡◌, ◌∷◌, [], true, false, refl}
use Rattle.std.specs.Prelude.{Some, None}
use Rattle.ts_fields.specs.declared.field.Kind.TheVariants.{Ones, Free, Decimal, Language, CountedText}
use Rattle.ts_fields.specs.Bits.{bits, number_of, bits_of}
use Rattle.ts_fields.specs.Layout.{number, bytes}
use Rattle.ts_fields.specs.Times.{is_pair, is_time, is_start}
use Rattle.ts_fields.specs.Reading.{read_number, read_bytes, read_decimal, read_field}

-- 0346 is 346 in decimal digits of four bits each
digits-row : read_field (Decimal 4) (bits_of (0x03 ∷ 0x46 ∷ [])) ≡ Some (Some (number 346), [])
unfolding bits number_of read_number read_decimal read_field
digits-row = refl

-- ten is no digit
ten-row : read_field (Decimal 4) (bits_of (0x0A ∷ 0x46 ∷ [])) ≡ None
unfolding bits number_of read_number read_decimal read_field
ten-row = refl

-- the least and the greatest byte of a language
language-row : read_field Language (bits_of (0x20 ∷ 0x7E ∷ 0x61 ∷ [])) ≡ Some (Some (bytes (0x20 ∷ 0x7E ∷ 0x61 ∷ [])), [])
unfolding bits number_of read_number read_bytes read_field
language-row = refl

-- the bytes beside them are in no language
below-row : read_field Language (bits_of (0x1F ∷ 0x7E ∷ 0x61 ∷ [])) ≡ None
unfolding bits number_of read_number read_bytes read_field
below-row = refl

above-row : read_field Language (bits_of (0x20 ∷ 0x7F ∷ 0x61 ∷ [])) ≡ None
unfolding bits number_of read_number read_bytes read_field
above-row = refl

-- reserved bits must be ones where they are not free
ones-row : read_field (Ones 8) (bits_of (0xEF ∷ [])) ≡ None
unfolding bits number_of read_number read_field
ones-row = refl

free-row : read_field (Free 8) (bits_of (0xEF ∷ [])) ≡ Some (None, [])
unfolding bits number_of read_number read_field
free-row = refl

-- a counted text that passes the end
cut-row : read_field CountedText (bits_of (0x02 ∷ 0x61 ∷ [])) ≡ None
unfolding bits number_of read_number read_bytes read_field
cut-row = refl

-- ETSI EN 300 468, 5.2.4: 93/10/13 12:45:00 is coded C079124500, and 01:45:30 is coded 014530
start-row : is_start 0xC079124500 ≡ true
unfolding is_start is_time is_pair
start-row = refl

duration-row : is_time 99 0x014530 ≡ true
unfolding is_time is_pair
duration-row = refl

-- hour 23 is the last of a day, minute 59 the last of an hour
last-row : is_start 0xC079235959 ≡ true
unfolding is_start is_time is_pair
last-row = refl

hour-row : is_start 0xC079240000 ≡ false
unfolding is_start is_time is_pair
hour-row = refl

minute-row : is_start 0xC079126000 ≡ false
unfolding is_start is_time is_pair
minute-row = refl

-- a start that is undefined
undefined-row : is_start 0xFFFFFFFFFF ≡ true
unfolding is_start is_time is_pair
undefined-row = refl

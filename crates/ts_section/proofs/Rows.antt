-- Worked rows: the definitions computed.
use Rattle.std.proofs.Common.{◌≡◌, ℕ, List, ◌∷◌, [], Some, None, true, false, refl}
use Rattle.ts_bit_rows.specs.BitRow.{bit_of, field}
use Rattle.ts_section.specs.Crc.{remainder, divided_row, crc_of}
use Rattle.ts_section.specs.SectionFields.{front_of}
use Rattle.ts_section.specs.WrittenSection.{long_section}
use Rattle.ts_section.specs.FirstBroken.{first_broken, first_broken_long}
use Rattle.ts_section.specs.declared.fault.SectionFault.TheVariants.{Short, Invalid, TooLong}
use Rattle.ts_section.specs.declared.fault.SectionRule.TheVariants.{Stuffing}

-- the published check value of this CRC: that of the text 123456789
of-digits : crc_of (0x31 ∷ 0x32 ∷ 0x33 ∷ 0x34 ∷ 0x35 ∷ 0x36 ∷ 0x37 ∷ 0x38 ∷ 0x39 ∷ []) ≡ 0x0376E6E7
unfolding crc_of divided_row remainder field bit_of
of-digits = refl

-- a whole CAT without descriptors divides to 0
cat : List ℕ
cat = 0x01 ∷ 0xB0 ∷ 0x09 ∷ 0xFF ∷ 0xFF ∷ 0xC1 ∷ 0x00 ∷ 0x00 ∷ 0xD6 ∷ 0x6D ∷ 0xA2 ∷ 0x42 ∷ []

of-cat : crc_of cat ≡ 0
unfolding cat crc_of divided_row remainder field bit_of
of-cat = refl

-- and breaks no rule
cat-valid : first_broken cat ≡ None
unfolding cat first_broken first_broken_long crc_of divided_row remainder field bit_of
cat-valid = refl

-- a length of 4094
too-long : first_broken (0x00 ∷ 0xBF ∷ 0xFE ∷ []) ≡ Some (TooLong 4094)
unfolding first_broken first_broken_long crc_of divided_row remainder field bit_of
too-long = refl

-- stuffing
stuffing : first_broken (0xFF ∷ 0x30 ∷ 0x00 ∷ []) ≡ Some (Invalid Stuffing)
unfolding first_broken first_broken_long crc_of divided_row remainder field bit_of
stuffing = refl

-- one byte is missing
short : first_broken (0x72 ∷ 0x30 ∷ 0x02 ∷ 0xAA ∷ []) ≡ Some (Short 5 4)
unfolding first_broken first_broken_long crc_of divided_row remainder field bit_of
short = refl

-- the CAT made of its head and no body
cat-made : long_section (record { table_id = 1; private = false; extension = 0xFFFF; version = 0; current = true; number = 0; last = 0 }) [] ≡ cat
unfolding cat long_section crc_of divided_row remainder field bit_of
cat-made = refl

-- a short section with a byte after it
front-of-two : front_of (0x72 ∷ 0x30 ∷ 0x01 ∷ 0xAA ∷ 0xFF ∷ []) ≡ 0x72 ∷ 0x30 ∷ 0x01 ∷ 0xAA ∷ []
unfolding front_of field bit_of
front-of-two = refl

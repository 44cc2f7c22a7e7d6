-- Writing fields, one after another.
-- ISO/IEC 13818-1, 2.6, and ETSI EN 300 468, 6.2: fields follow one another without a gap.
-- This project's own rule: reserved bits without a value are written as ones.
use Rattle.std.specs.Prelude.{ℕ, suc, zero, ◌-◌, ◌/◌, ◌%◌, ◌^◌, List, [], ◌∷◌, ◌++◌, length, drop, slice_get, Bool, Option, Some, None}
use Rattle.ts_fields.specs.declared.field.Kind.{Kind}
use Rattle.ts_fields.specs.declared.field.Kind.TheVariants.{Number, Reserved, Zeros, Ones, Free, Flag, Start, Duration, Decimal, Language, CountedText, CountedHex, Text, Hex}
use Rattle.ts_fields.specs.Bits.{bits, bits_of}
use Rattle.ts_fields.specs.Layout.{Row, Held, number, bytes}

-- the last `digits` decimal digits of a number, four bits each, most significant first
unfoldable pub spell_decimal : ℕ → ℕ → List Bool
spell_decimal zero value = []
spell_decimal (suc digits) value = bits 4 (value / 10 ^ digits % 10) ++ spell_decimal digits value

-- the bits of a value that is a number; none for another value
abbrev pub on_number : Option Held → (ℕ → List Bool) → List Bool
on_number None spell = []
on_number (Some (number n)) spell = spell n
on_number (Some (bytes b)) spell = []

-- the bits of a value that is bytes; none for another value
abbrev pub on_bytes : Option Held → (List ℕ → List Bool) → List Bool
on_bytes None spell = []
on_bytes (Some (number n)) spell = []
on_bytes (Some (bytes b)) spell = spell b

-- the bits of a field with this value
unfoldable pub spell_field : Kind → Option Held → List Bool
spell_field (Number count) value = on_number value (bits count)
spell_field (Reserved count) value = on_number value (bits count)
spell_field (Zeros count) value = on_number value (bits count)
spell_field (Ones count) value = bits count (2 ^ count - 1)
spell_field (Free count) value = bits count (2 ^ count - 1)
spell_field Flag value = on_number value (bits 1)
spell_field (Decimal digits) value = on_number value (spell_decimal digits)
spell_field Start value = on_number value (bits 40)
spell_field Duration value = on_number value (bits 24)
spell_field Language value = on_bytes value bits_of
spell_field CountedText value = on_bytes value (λ b. bits 8 (length b) ++ bits_of b)
spell_field CountedHex value = on_bytes value (λ b. bits 8 (length b) ++ bits_of b)
spell_field Text value = on_bytes value bits_of
spell_field Hex value = on_bytes value bits_of

-- the number of values of a field: reserved bits that must be ones, or may be anything, hold none
abbrev pub holds : Kind → ℕ
holds (Ones count) = 0
holds (Free count) = 0
holds _ = 1

-- the bits of the fields of some rows with these values, in the order of the rows
unfoldable pub spell_rows : List Row → List Held → List Bool
spell_rows [] values = []
spell_rows (r ∷ rs) values =
    spell_field r.kind (slice_get values 0) ++ spell_rows rs (drop (holds r.kind) values)

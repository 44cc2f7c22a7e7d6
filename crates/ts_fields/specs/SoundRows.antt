-- Rows that can be read and written.
-- This project's own rule: fields take whole bytes together, and a field that goes to the end is the last.
use Rattle.std.specs.Prelude.{ℕ, ◌+◌, ◌*◌, ◌%◌, ◌&&◌, ◌||◌, List, [], ◌∷◌, Bool, true, false, nat_eq, nat_le, nat_lt, if◌then◌else◌}
use Rattle.std.specs.List.{list_all}
use Rattle.ts_fields.specs.declared.field.Kind.{Kind}
use Rattle.ts_fields.specs.declared.field.Kind.TheVariants.{Number, Reserved, Zeros, Ones, Free, Flag, Start, Duration, Decimal, Language, CountedText, CountedHex, Text, Hex}
use Rattle.ts_fields.specs.Layout.{Row}

-- numbers have at most 63 bits, or eight decimal digits
abbrev pub is_sound : Kind → Bool
is_sound (Number count) = nat_lt count 64
is_sound (Reserved count) = nat_lt count 64
is_sound (Zeros count) = nat_lt count 64
is_sound (Ones count) = nat_lt count 64
is_sound (Free count) = nat_lt count 64
is_sound (Decimal digits) = nat_le digits 8
is_sound _ = true

abbrev pub are_sound : List Row → Bool
are_sound rs = list_all (λ r. is_sound r.kind) rs

-- a field that goes to the end
abbrev pub goes_to_end : Kind → Bool
goes_to_end Text = true
goes_to_end Hex = true
goes_to_end _ = false

-- some row goes to the end
abbrev pub is_open : List Row → Bool
is_open [] = false
is_open (r ∷ rs) = goes_to_end r.kind || is_open rs

-- no rows
abbrev pub is_nil : List Row → Bool
is_nil [] = true
is_nil (r ∷ rs) = false

-- no row but the last goes to the end
abbrev pub ends_last : List Row → Bool
ends_last [] = true
ends_last (r ∷ rs) = if goes_to_end r.kind then is_nil rs else ends_last rs

-- a field that is written as it was read; reserved bits that are read as anything are not
abbrev pub is_exact : Kind → Bool
is_exact (Free count) = false
is_exact _ = true

abbrev pub are_exact : List Row → Bool
are_exact rs = list_all (λ r. is_exact r.kind) rs

-- the number of bits of a field, without the bytes of texts and data, which are whole bytes
abbrev pub width : Kind → ℕ
width (Number count) = count
width (Reserved count) = count
width (Zeros count) = count
width (Ones count) = count
width (Free count) = count
width Flag = 1
width (Decimal digits) = 4 * digits
width Start = 40
width Duration = 24
width _ = 0

-- the number of bits of the fields of some rows, without the bytes of texts and data
abbrev pub widths : List Row → ℕ
widths [] = 0
widths (r ∷ rs) = width r.kind + widths rs

-- the least number of bits of a field
abbrev pub least : Kind → ℕ
least Language = 24
least CountedText = 8
least CountedHex = 8
least kind = width kind

-- the least number of bits of the fields of some rows
abbrev pub leasts : List Row → ℕ
leasts [] = 0
leasts (r ∷ rs) = least r.kind + leasts rs

-- rows that can be read and written: valid widths, whole bytes, and a field that goes to the end is the last
abbrev pub rows_sound : List Row → Bool
rows_sound rs = are_sound rs && ends_last rs && nat_eq (widths rs % 8) 0

-- Tables in which each character has one spelling.
-- This project's own rule: the character of a byte has that byte, and the character of an accented letter has no byte
-- and no other accented letter; and each is a character of Unicode.
use Rattle.std.specs.Prelude.{ℕ, suc, zero, ◌&&◌, ◌||◌, List, [], ◌∷◌, nat_eq, nat_lt, Bool, true, false, Option, Some, None}
use Rattle.std.specs.List.{list_all}
use Rattle.std.specs.Str.{all_scalars}
use Rattle.ts_charsets.specs.declared.char_table.AccentedLetter.{AccentedLetter}
use Rattle.ts_charsets.specs.CharTables.{Table, char_of, byte_of, accented_char}
use Rattle.ts_charsets.specs.Alphabets.{Alphabet, single, double}

-- bytes
abbrev pub are_bytes : List ℕ → Bool
are_bytes row = list_all (λ byte. nat_lt byte 256) row

-- a test of every number below a bound
unfoldable pub all_below : ℕ → (ℕ → Bool) → Bool
all_below zero test = true
all_below (suc n) test = test n && all_below n test

abbrev pub is_byte : Option ℕ → ℕ → Bool
is_byte None b = false
is_byte (Some x) b = nat_eq x b

abbrev pub is_letter : Option ℕ → Option AccentedLetter → AccentedLetter → Bool
is_letter (Some b) found a = false
is_letter None None a = false
is_letter None (Some x) a = nat_eq x.accent a.accent && nat_eq x.letter a.letter

-- a byte without a character, or the byte of its character
abbrev pub spells_byte : Table → ℕ → Bool
spells_byte t b =
    nat_eq (char_of t b) 0 || (is_byte (byte_of t (char_of t b)) b && all_scalars (char_of t b ∷ []))

-- the one spelling of its character
abbrev pub spells_letter : Table → AccentedLetter → Bool
spells_letter t a = is_letter (byte_of t a.shown) (accented_char t a.shown) a && all_scalars (a.shown ∷ [])

unfoldable pub table_spells_once : Table → Bool
table_spells_once t = all_below 256 (spells_byte t) && list_all (spells_letter t) t.accented

-- each character of the alphabet has one spelling
abbrev pub spells_once : Alphabet → Bool
spells_once (single t) = table_spells_once t
spells_once double = true

-- Alphabets: the ways in which bytes are characters.
-- ETSI EN 300 468, annex A: one byte a character in a table, or the two bytes of ISO/IEC 10646, the high one first
-- (selecting byte 0x11), in which the control codes of table A.1 are the code points U+E080 to U+E09F (table A.2).
use Rattle.std.specs.Prelude.{ℕ, ◌+◌, ◌*◌, ◌/◌, ◌%◌, [], ◌∷◌, nat_eq, nat_lt, if◌then◌else◌, Option, Some, None}
use Rattle.std.specs.Str.{all_scalars}
use Rattle.ts_charsets.specs.declared.alphabet.Alphabet as code
use Rattle.ts_charsets.specs.declared.alphabet.Alphabet.TheVariants as variants
use Rattle.ts_charsets.specs.CharTables.{Table, line_break, table_of}

pub data Alphabet : Type 0 where
  single : Table → Alphabet
  double : Alphabet

-- the alphabet of one of the code
abbrev pub alphabet_of : code.Alphabet → Alphabet
alphabet_of (variants.Single t) = single (table_of t)
alphabet_of variants.Double = double

-- the code point of a line break in two bytes
abbrev pub double_break : ℕ
double_break = 0xE08A

-- the character of a number of two bytes; 0 for none: control codes below the space and surrogates are no characters
abbrev pub code_char : ℕ → ℕ
code_char n =
    if nat_eq n double_break then line_break
    else if nat_lt n 0x20 then 0
    else if all_scalars (n ∷ []) then n
    else 0

-- the character of two bytes; 0 for none
abbrev pub pair_char : ℕ → ℕ → ℕ
pair_char high low = code_char (high * 256 + low)

-- the two bytes of a character
abbrev pub pair_of : ℕ → Option (ℕ × ℕ)
pair_of c =
    if nat_eq c line_break then Some (0xE0, 0x8A)
    else if nat_lt c 0x20 then None
    else if nat_lt 0xFFFF c then None
    else if nat_eq c double_break then None
    else Some (c / 256, c % 256)

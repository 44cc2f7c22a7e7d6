-- Character tables of texts.
-- ETSI EN 300 468, annex A: a byte 0x20 to 0x7E is ASCII, 0x80 to 0x9F are control codes (table A.1), and the bytes
-- from 0xA0 on are those of the table. In ISO/IEC 6937 an accent and the letter after it are one character.
use Rattle.std.specs.Prelude.{ℕ, ◌+◌, ◌-◌, ◌&&◌, List, slice_index, nat_eq, nat_lt, if◌then◌else◌, Option, Some, None, option_map}
use Rattle.std.specs.List.{find, position}
use Rattle.ts_charsets.specs.declared.char_table.AccentedLetter.{AccentedLetter}
use Rattle.ts_charsets.specs.declared.char_table.CharTable.{CharTable}

-- the characters from 0xA0 on, 0 where there is none, and the accented letters
pub record Table : Type 0 where
  pub upper : List ℕ
  pub accented : List AccentedLetter

-- the table of a table of the code
abbrev pub table_of : CharTable → Table
table_of t = record { upper = t.upper.now; accented = t.accented.now }

-- a line break
abbrev pub line_break : ℕ
line_break = 10

-- the code points of emphasis on and off, as the two-byte tables have them (table A.2)
abbrev pub emphasis_on : ℕ
emphasis_on = 0xE086

abbrev pub emphasis_off : ℕ
emphasis_off = 0xE087

-- the character of a byte; 0 for none
abbrev pub char_of : Table → ℕ → ℕ
char_of t byte =
    if nat_lt byte 0x20 then 0
    else if nat_lt byte 0x7F then byte
    else if nat_eq byte 0x86 then emphasis_on
    else if nat_eq byte 0x87 then emphasis_off
    else if nat_eq byte 0x8A then line_break
    else if nat_lt byte 0xA0 then 0
    else slice_index t.upper (byte - 0xA0)

-- the accented letter of two bytes
abbrev pub letter_of : Table → ℕ → ℕ → Option AccentedLetter
letter_of t accent letter = find (λ a. nat_eq a.accent accent && nat_eq a.letter letter) t.accented

-- the byte of a character
abbrev pub byte_of : Table → ℕ → Option ℕ
byte_of t c =
    if nat_eq c 0 then None
    else if nat_eq c line_break then Some 0x8A
    else if nat_lt c 0x20 then None
    else if nat_lt c 0x7F then Some c
    else if nat_eq c emphasis_on then Some 0x86
    else if nat_eq c emphasis_off then Some 0x87
    else option_map (λ i. 0xA0 + i) (position (λ d. nat_eq d c) t.upper)

-- the accented letter that is a character
abbrev pub accented_char : Table → ℕ → Option AccentedLetter
accented_char t c = find (λ a. nat_eq a.shown c) t.accented

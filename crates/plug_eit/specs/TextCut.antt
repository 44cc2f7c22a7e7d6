-- A text cut at a character's end.
-- ETSI EN 300 468, annex A: the first byte of a text names its character table, unless it is 0x20 or above: then the text is
-- of table 00, in which a byte from 0xC0 to 0xCF is an accent in front of its letter (figure A.1), and they are cut together.
-- Table A.3: 0x01 to 0x0B, and 0x10 with two more bytes, name tables of one byte a character. Table A.4 and clause A.2: 0x11
-- and 0x14 have two bytes a character, 0x12 and 0x13 one, or two where the first has its highest bit set, 0x15 is UTF-8. All
-- others are reserved, or of an encoding that is told elsewhere (0x1F). That of a text whose characters are not known
-- nothing stays, and of one of which no character stays its table's name goes too, is this project's own rule.
use Rattle.std.specs.Prelude.{ℕ, zero, suc, ◌+◌, ◌==◌, nat_le, nat_lt, ◌&&◌, ◌||◌, List, length, take, slice_index, Bool, if◌then◌else◌}

-- more bytes than a text has
abbrev pub no_end : ℕ
no_end = 256

-- the bytes in front of the first character
abbrev pub mark_size : ℕ → ℕ
mark_size first = if nat_le 0x20 first then 0 else if first == 0x10 then 3 else 1

-- the size of a character of table 00, by its first byte
abbrev pub latin_size : ℕ → ℕ
latin_size lead = if nat_le 0xC0 lead && nat_lt lead 0xD0 then 2 else 1

-- the size of a character of UTF-8, by its first byte
abbrev pub utf8_size : ℕ → ℕ
utf8_size lead = if nat_lt lead 0xC0 then 1 else if nat_lt lead 0xE0 then 2 else if nat_lt lead 0xF0 then 3 else 4

-- the size of a character of one byte, or of two where the first has its highest bit set
abbrev pub mixed_size : ℕ → ℕ
mixed_size lead = if nat_lt lead 0x80 then 1 else 2

-- a table of one byte a character
abbrev pub has_single_bytes : ℕ → Bool
has_single_bytes first = (nat_le 1 first && nat_le first 0x0B) || (first == 0x10)

-- the size of a character, by the first byte of its text and its own
abbrev pub char_size : ℕ → ℕ → ℕ
char_size first lead =
    if nat_le 0x20 first then latin_size lead
    else if has_single_bytes first then 1
    else if (first == 0x11) || (first == 0x14) then 2
    else if (first == 0x12) || (first == 0x13) then mixed_size lead
    else if first == 0x15 then utf8_size lead
    else no_end

-- the last end of a character that is not beyond the room, from an end on: at most so many characters more
unfoldable pub end_from : ℕ → List ℕ → ℕ → ℕ → ℕ
end_from zero text room at = at
end_from (suc more) text room at =
    let next = at + char_size (slice_index text 0) (slice_index text at) in
    if nat_le next room then end_from more text room next else at

-- nothing stays where no character does
abbrev pub end_behind : ℕ → ℕ → ℕ
end_behind mark end = if end == mark then 0 else end

-- how many bytes stay of a text that is longer than the room
abbrev pub kept_size : List ℕ → ℕ → ℕ
kept_size text room =
    let mark = mark_size (slice_index text 0) in
    if nat_lt room mark then 0 else end_behind mark (end_from room text room mark)

-- a text, cut at a character's end where it is longer than the room
unfoldable pub cut_text : ℕ → List ℕ → List ℕ
cut_text room text = if nat_le (length text) room then text else take (kept_size text room) text

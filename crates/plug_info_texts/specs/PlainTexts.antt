-- Texts that are shown as they are: none of their characters moves a terminal. The control characters are those of
-- ISO/IEC 646, below 0x20 and 0x7F, and those of ISO/IEC 6429 from U+0080 to U+009F, which UTF-8 writes as 0xC2 and a
-- byte from 0x80 to 0x9F. RFC 8259, 7: in a string of JSON a backslash comes before a quotation mark and a backslash.
-- Which texts are shown so is this project's own rule.
use Rattle.std.specs.Prelude.{ℕ, ◌==◌, Bool, true, not, ◌&&◌, ◌||◌, List, [], ◌∷◌, ◌++◌, nat_le, codes, if◌then◌else◌}
use Rattle.std.specs.List.{flat_map, list_all}
use Rattle.std.specs.Char.{encode_utf8}
use Rattle.std.specs.Str.{chars}

-- a byte that is no control character of ASCII
abbrev pub is_printed : ℕ → Bool
is_printed byte = nat_le 0x20 byte && not (byte == 0x7F)

-- two bytes that are a control character from U+0080 to U+009F
abbrev pub is_control : ℕ → ℕ → Bool
is_control first second = (first == 0xC2) && (nat_le 0x80 second && nat_le second 0x9F)

-- no byte is a control character, and no two are, nor the first one with the byte before it
abbrev pub shows_after : ℕ → List ℕ → Bool
shows_after before [] = true
shows_after before (byte ∷ bytes) = (is_printed byte && not (is_control before byte)) && shows_after byte bytes

-- a text without a control character
abbrev pub is_harmless : List ℕ → Bool
is_harmless text = shows_after 0 text

-- a quotation mark or a backslash
abbrev pub is_mark : ℕ → Bool
is_mark character = (character == 0x22) || (character == 0x5C)

-- no byte is a quotation mark or a backslash
abbrev pub has_no_mark : List ℕ → Bool
has_no_mark text = list_all (λ byte. not (is_mark byte)) text

-- a text that can be in quotation marks as it is: without a control character, a quotation mark and a backslash
abbrev pub is_plain : List ℕ → Bool
is_plain text = is_harmless text && has_no_mark text

-- a character in a string of JSON
abbrev pub escaped_character : ℕ → List ℕ
escaped_character character = (if is_mark character then codes "\\" else []) ++ encode_utf8 character

-- a text without control characters in a string of JSON
abbrev pub escaped : List ℕ → List ℕ
escaped text = flat_map escaped_character (chars text)

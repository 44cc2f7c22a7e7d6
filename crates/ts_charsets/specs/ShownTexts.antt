-- Texts on a screen.
-- This project's own rule: emphasis is left out, and a line break is a space; the control codes are those of ETSI
-- EN 300 468, annex A, tables A.1 and A.2.
use Rattle.std.specs.Prelude.{ℕ, List, [], ◌∷◌, nat_eq, chars, if◌then◌else◌, Option, option_map}
use Rattle.std.specs.List.{flat_map}
use Rattle.std.specs.Char.{encode_utf8}
use Rattle.ts_charsets.specs.CharTables.{emphasis_off, emphasis_on, line_break}
use Rattle.ts_charsets.specs.Alphabets.{double_break}
use Rattle.ts_charsets.specs.TextTables.{tabled_text}

-- a character on a screen
abbrev pub screen_char : ℕ → List ℕ
screen_char c =
    if nat_eq c emphasis_on then []
    else if nat_eq c emphasis_off then []
    else if nat_eq c line_break then 0x20 ∷ []
    else if nat_eq c double_break then 0x20 ∷ []
    else encode_utf8 c

-- characters on a screen
abbrev pub screen_chars : List ℕ → List ℕ
screen_chars cs = flat_map screen_char cs

-- the text of bytes in the table that they select, as it is on a screen; none where some have no character
unfoldable pub shown_text : List ℕ → Option (List ℕ)
shown_text b = option_map (λ x. screen_chars (chars x.1)) (tabled_text b)

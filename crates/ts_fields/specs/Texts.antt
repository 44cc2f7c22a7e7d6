-- Texts of descriptors as bytes.
-- This project's own rule: printable ASCII stands for itself, and UTF-8 with any other character follows a byte 0x15,
-- the mark of ETSI EN 300 468, A.2, for UTF-8. No other bytes are shown as text.
use Rattle.std.specs.Prelude.{ℕ, ◌&&◌, List, [], ◌∷◌, nat_eq, not, if◌then◌else◌, Option, Some, None}
use Rattle.std.specs.Str.{is_utf8}
use Rattle.ts_fields.specs.Reading.{are_printable}

-- the text after a mark, if it is UTF-8 and not printable ASCII alone
abbrev pub marked_text : List ℕ → Option (List ℕ)
marked_text [] = None
marked_text (mark ∷ text) =
    if nat_eq mark 0x15 && (is_utf8 text && not (are_printable text)) then Some text else None

-- the text of bytes, if they have one
abbrev pub text_of : List ℕ → Option (List ℕ)
text_of row = if are_printable row then Some row else marked_text row

-- the bytes of a text
abbrev pub text_bytes : List ℕ → List ℕ
text_bytes text = if are_printable text then text else 0x15 ∷ text

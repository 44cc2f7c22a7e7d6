-- Bytes as hexadecimal digits.
-- This project's own rule.
use Rattle.std.specs.Prelude.{ℕ, ◌&&◌, Err, List, None, Ok, Option, Result, Some, if◌then◌else◌, length, nat_le}
use Rattle.hex.specs.Hex.{decode_of}
use Rattle.hex.specs.declared.error.FromHexError.{FromHexError}

-- the bytes, where there are any, and their number is the one asked for
abbrev pub if_as_many : ℕ → ℕ → Result (List ℕ) FromHexError → Option (List ℕ)
if_as_many least most (Ok bytes) =
    if nat_le least (length bytes) && nat_le (length bytes) most then Some bytes else None
if_as_many least most (Err error) = None

-- the bytes of a text, two digits of either case each, of a least to a greatest number of bytes
unfoldable pub bytes_of : ℕ → ℕ → List ℕ → Option (List ℕ)
bytes_of least most text = if_as_many least most (decode_of text)

-- Codes of three characters and whole descriptors as words write them, alone or each behind a number.
-- ISO/IEC 13818-1, 2.6: a descriptor has a tag, a length and that many bytes. How words write them is this project's own
-- rule.
use Rattle.std.specs.Prelude.{ℕ, ◌==◌, ◌&&◌, ◌≡◌, ◌≤◌, Bool, true, false, List, None, Option, Result, Ok, Err, Some, if◌then◌else◌, length, nat_le, not, option_and_then}
use Rattle.std.specs.List.{after_first, before_first, list_all, list_any}
use Rattle.ts_bits.specs.DescriptorLoop.{descriptors_of}
use Rattle.ts_bits.specs.TaggedBody.{TaggedBody}
use Rattle.plugin_options.specs.HexText.{bytes_of}
use Rattle.plugin_options.specs.Joined.{is_comma, read_joined}
use Rattle.plugin_options.specs.Number.{number_within}
use Rattle.plugin_options.specs.Pairs.{both_of}
use Rattle.plugin_options.specs.declared.limits.TheConstants.{MOST_BYTES}
use Rattle.plugin_options.specs.declared.part.Part.{Part}
use Rattle.plugin_options.specs.declared.part.Part.TheVariants.{Code, Descriptors}

-- a byte that may stand in a code: a printable character of ASCII, and no comma
abbrev pub is_code_byte : ℕ → Bool
is_code_byte byte = (nat_le 0x20 byte && nat_le byte 0x7E) && not (is_comma byte)

-- the bytes are a code
abbrev pub is_code : List ℕ → Bool
is_code text = length text == 3 && list_all is_code_byte text

-- the code that a text is
unfoldable pub code_of : List ℕ → Option (List ℕ)
code_of text = if is_code text then Some text else None

-- descriptors fill the bytes
abbrev pub is_read : Result (List TaggedBody) ℕ → Bool
is_read (Ok descriptors) = true
is_read (Err offset) = false

-- the bytes, where descriptors fill them
abbrev pub if_whole : List ℕ → Option (List ℕ)
if_whole bytes = if is_read (descriptors_of bytes) then Some bytes else None

-- the bytes of one or more whole descriptors, two hexadecimal digits each
unfoldable pub whole_of : List ℕ → Option (List ℕ)
whole_of text = option_and_then if_whole (bytes_of 1 MOST_BYTES text)

-- the bytes of a part
abbrev pub part_of : Part → List ℕ → Option (List ℕ)
part_of Code text = code_of text
part_of Descriptors text = whole_of text

-- what is known of the bytes of a part
abbrev pub IsPart : Part → List ℕ → Type 0
IsPart Code bytes = length bytes ≡ 3
IsPart Descriptors bytes = 1 ≤ length bytes

-- a number from a least to a greatest, the sign, and a part
unfoldable pub numbered_of : ℕ → ℕ × ℕ → Part → List ℕ → Option (ℕ × List ℕ)
numbered_of sign range part text =
    if list_any (λ byte. byte == sign) text
    then both_of (number_within range.0 range.1 (before_first (λ byte. byte == sign) text))
    (part_of part (after_first (λ byte. byte == sign) text))
    else None

-- such items joined by commas; an empty part is none
unfoldable pub all_numbered_of : ℕ → ℕ × ℕ → Part → List ℕ → Option (List (ℕ × List ℕ))
all_numbered_of sign range part text = read_joined (numbered_of sign range part) text

-- the number lies between its least and its greatest, and the bytes are those of such a part
abbrev pub IsNumbered : ℕ × ℕ → Part → ℕ × List ℕ → Type 0
IsNumbered range part item = (range.0 ≤ item.0) × (item.0 ≤ range.1) × IsPart part item.1

-- Attributes of an element.
-- This project's own rule: the attributes of an element give the fields of its rows, in their order. The faults of
-- one are looked for in this order: it is missing, it has the wrong form, it is out of range.
use Rattle.std.specs.Prelude.{ℕ, ◌-◌, ◌^◌, ◌&&◌, List, [], ◌∷◌, ◌++◌, length, codes, Bool, true, nat_eq, nat_le, if◌then◌else◌, Option, Some, None, option_to_list, Result, Ok, Err}
use Rattle.hex.specs.Hex.{decode_of}
use Rattle.serde_json.specs.Data.{Data, Members}
use Rattle.serde_json.specs.Find.{get_member, as_str}
use Rattle.ts_fields.specs.declared.field.Kind.{Kind}
use Rattle.ts_fields.specs.declared.field.Kind.TheVariants.{Number, Reserved, Zeros, Ones, Free, Flag, Start, Duration, Decimal, Language, CountedText, Text, CountedHex, Hex}
use Rattle.ts_fields.specs.Layout as rows
use Rattle.ts_fields.specs.Layout.{Row, Held}
use Rattle.ts_fields.specs.Reading.{are_printable}
use Rattle.ts_fields.specs.Texts.{text_bytes}
use Rattle.ts_charsets.specs.TextTables.{bytes_by_table, table_named}
use Rattle.ts_days.specs.TimeTexts.{start_of, time_of}
use Rattle.ts_jtree.specs.declared.fault.JsonKind.TheVariants.{Missing, WrongKind, OutOfRange}
use Rattle.ts_jtree.specs.Faults.{Reading, refuse, or_refuse, ◌>>=◌}
use Rattle.ts_jtree.specs.Numbers.{number_of, bit_of}

-- whether a number lies in a row's range, where the row has one
abbrev pub within : Option (ℕ × ℕ) → ℕ → Bool
within None n = true
within (Some x) n = nat_le x.0 n && nat_le n x.1

-- a number that its field can hold, in the row's range
abbrev pub in_range : Option (ℕ × ℕ) → ℕ → List ℕ → ℕ → Reading ℕ
in_range range widest key n = if nat_le n widest && within range n then Ok n else refuse key OutOfRange

-- the number of a value, in its range
unfoldable pub number_in : Option (ℕ × ℕ) → ℕ → List ℕ → Data → Reading ℕ
number_in range widest key value = do
  n ← or_refuse (number_of value) key WrongKind
  in_range range widest key n

-- the number at a key, or the default of an absent one
abbrev pub number_at : Option ℕ → Option (ℕ × ℕ) → ℕ → List ℕ → Option Data → Reading ℕ
number_at absent range widest key None = or_refuse absent key Missing
number_at absent range widest key (Some value) = number_in range widest key value

-- the number of an attribute, or its default where the key is absent
unfoldable pub number_attribute : Option ℕ → Option (ℕ × ℕ) → ℕ → List ℕ → Members → Reading ℕ
number_attribute absent range widest key ms = number_at absent range widest key (get_member key ms)

-- the bit of the Boolean at a key, or the default of an absent one
abbrev pub flag_at : Option ℕ → List ℕ → Option Data → Reading ℕ
flag_at absent key None = or_refuse absent key Missing
flag_at absent key (Some value) = or_refuse (bit_of value) key WrongKind

-- the bit of an attribute, or its default where the key is absent
unfoldable pub flag_attribute : Option ℕ → List ℕ → Members → Reading ℕ
flag_attribute absent key ms = flag_at absent key (get_member key ms)

-- the text at a key
unfoldable pub text_at : List ℕ → Members → Reading (List ℕ)
text_at key ms = do
  value ← or_refuse (get_member key ms) key Missing
  or_refuse (as_str value) key WrongKind

-- the start of an event, YYYY-MM-DD hh:mm:ss or `undefined`
unfoldable pub start_attribute : List ℕ → Members → Reading ℕ
start_attribute key ms = do
  text ← text_at key ms
  or_refuse (start_of text) key WrongKind

-- the duration of an event, hh:mm:ss
unfoldable pub duration_attribute : List ℕ → Members → Reading ℕ
duration_attribute key ms = do
  text ← text_at key ms
  or_refuse (time_of 99 text) key WrongKind

-- a language or a country: three characters of 0x20 to 0x7E
unfoldable pub language_attribute : List ℕ → Members → Reading (List ℕ)
language_attribute key ms = do
  text ← text_at key ms
  if nat_eq (length text) 3 && are_printable text then Ok text else refuse key WrongKind

-- what was decoded, without the reason of an error
abbrev pub ok_part : {A E : Type 0} → Result A E → Option A
ok_part (Ok x) = Some x
ok_part (Err e) = None

-- the bytes that an even number of hexadecimal digits of either case write; none where the key is absent
abbrev pub hex_at : List ℕ → Option Data → Reading (List ℕ)
hex_at key None = Ok []
hex_at key (Some value) = do
  text ← or_refuse (as_str value) key WrongKind
  or_refuse (ok_part (decode_of text)) key WrongKind

-- the bytes that hexadecimal digits at a key write; none where the key is absent
unfoldable pub hex_attribute : List ℕ → Members → Reading (List ℕ)
hex_attribute key ms = hex_at key (get_member key ms)

-- the bytes that hexadecimal digits at a key write, where their number is in the row's range
unfoldable pub data_attribute : Option (ℕ × ℕ) → List ℕ → Members → Reading (List ℕ)
data_attribute range key ms = do
  b ← hex_attribute key ms
  if within range (length b) then Ok b else refuse key OutOfRange

-- the key for the bytes of a text that JSON cannot show
abbrev pub hex_key : List ℕ → List ℕ
hex_key key = key ++ codes "_hex"

-- the key for the name of a text's character table
abbrev pub table_key : List ℕ → List ℕ
table_key key = key ++ codes "_table"

-- the bytes of a text in the table that is named, or by the rule for texts without a table
abbrev pub tabled_at : List ℕ → List ℕ → Option Data → Reading (List ℕ)
tabled_at key text None = Ok (text_bytes text)
tabled_at key text (Some value) = do
  name ← or_refuse (as_str value) (table_key key) WrongKind
  t ← or_refuse (table_named name) (table_key key) WrongKind
  or_refuse (bytes_by_table t text) key OutOfRange

-- the bytes of the text at a key, or else those at its key for bytes
abbrev pub text_or_hex : List ℕ → Members → Option Data → Reading (List ℕ)
text_or_hex key ms None = hex_attribute (hex_key key) ms
text_or_hex key ms (Some value) = do
  text ← or_refuse (as_str value) key WrongKind
  tabled_at key text (get_member (table_key key) ms)

-- the bytes of a text attribute, or else those at its key for bytes
unfoldable pub text_attribute : List ℕ → Members → Reading (List ℕ)
text_attribute key ms = text_or_hex key ms (get_member key ms)

-- the value of a field with this number
abbrev pub holds_number : Reading ℕ → Reading (Option Held)
holds_number read = read >>= λ n. Ok (Some (rows.number n))

-- the value of a field with these bytes
abbrev pub holds_bytes : Reading (List ℕ) → Reading (Option Held)
holds_bytes read = read >>= λ b. Ok (Some (rows.bytes b))

-- the value of a field of this kind and name; reserved bits have no attribute
unfoldable pub attribute_of : Kind → List ℕ → Option ℕ → Option (ℕ × ℕ) → Members → Reading (Option Held)
attribute_of (Number count) key absent range ms =
    holds_number (number_attribute absent range (2 ^ count - 1) key ms)
attribute_of (Reserved count) key absent range ms =
    holds_number (number_attribute (Some (2 ^ count - 1)) range (2 ^ count - 1) key ms)
attribute_of (Zeros count) key absent range ms =
    holds_number (number_attribute (Some 0) range (2 ^ count - 1) key ms)
attribute_of (Ones count) key absent range ms = Ok None
attribute_of (Free count) key absent range ms = Ok None
attribute_of Flag key absent range ms = holds_number (flag_attribute absent key ms)
attribute_of Start key absent range ms = holds_number (start_attribute key ms)
attribute_of Duration key absent range ms = holds_number (duration_attribute key ms)
attribute_of (Decimal digits) key absent range ms =
    holds_number (number_attribute absent range (10 ^ digits - 1) key ms)
attribute_of Language key absent range ms = holds_bytes (language_attribute key ms)
attribute_of CountedText key absent range ms = holds_bytes (text_attribute key ms)
attribute_of Text key absent range ms = holds_bytes (text_attribute key ms)
attribute_of Hex key absent range ms = holds_bytes (data_attribute range key ms)
attribute_of CountedHex key absent range ms = holds_bytes (data_attribute range key ms)

-- the value of the field of a row; none for reserved bits
abbrev pub read_attribute : Row → Members → Reading (Option Held)
read_attribute r ms = attribute_of r.kind r.name r.absent r.range ms

-- the values of the fields of some rows, in the order of the rows
unfoldable pub read_attributes : List Row → Members → Reading (List Held)
read_attributes [] ms = Ok []
read_attributes (r ∷ rs) ms = do
  value ← read_attribute r ms
  more ← read_attributes rs ms
  Ok (option_to_list value ++ more)

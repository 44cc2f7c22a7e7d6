-- How elements are written.
-- This project's own rule: every attribute is written, defaults too, but not reserved bits that are as usual; numbers
-- are numbers, flags Booleans, bytes lower case hexadecimal digits; a text that its bytes alone do not tell is written
-- with the name of its table, and one that has a byte without a character only as its bytes.
use Rattle.std.specs.Prelude.{ℕ, ◌-◌, ◌^◌, ◌&&◌, ◌||◌, nat_lt, if◌then◌else◌, List, [], ◌∷◌, drop, length, Bool, true, false, not, bytes_eq, nat_eq, slice_get, Option, Some, None}
use Rattle.hex.specs.Hex.{encode_lower}
use Rattle.serde_json.specs.Data.{Data, boolean, string, number, unsigned, Members, no_members, put}
use Rattle.ts_fields.specs.declared.field.Kind.{Kind}
use Rattle.ts_fields.specs.declared.field.Kind.TheVariants.{Number, Reserved, Zeros, Ones, Free, Flag, Start, Duration, Decimal, Language, CountedText, Text, CountedHex, Hex}
use Rattle.ts_fields.specs.Layout as rows
use Rattle.ts_fields.specs.Layout.{Row, Held}
use Rattle.ts_fields.specs.Reading.{are_printable}
use Rattle.ts_fields.specs.Spelling.{holds}
use Rattle.ts_fields.specs.Texts.{text_of}
use Rattle.ts_charsets.specs.TextTables.{tabled_text}
use Rattle.ts_days.specs.TimeTexts.{start_text, time_text}
use Rattle.ts_jtree.specs.Attributes.{hex_key, table_key, within}
use Rattle.ts_jtree.specs.Elements.{name_key, nodes_key}

-- the members with a number as it is shown; without one, as they are
abbrev pub put_number : Option Held → List ℕ → Members → (ℕ → Data) → Members
put_number None key ms show = ms
put_number (Some (rows.number n)) key ms show = put key (show n) ms
put_number (Some (rows.bytes b)) key ms show = ms

-- the members with bytes as they are shown; without them, as they are
abbrev pub put_bytes : Option Held → Members → (List ℕ → Members) → Members
put_bytes None ms show = ms
put_bytes (Some (rows.number n)) ms show = ms
put_bytes (Some (rows.bytes b)) ms show = show b

-- so many ones
abbrev pub are_ones : ℕ → ℕ → Bool
are_ones count n = nat_lt count 64 && nat_eq n (2 ^ count - 1)

-- the members with the number of reserved bits; where they are as usual, as they are
abbrev pub put_unless : (ℕ → Bool) → Option Held → List ℕ → Members → Members
put_unless usual None key ms = ms
put_unless usual (Some (rows.number n)) key ms = if usual n then ms else put key (number (unsigned n)) ms
put_unless usual (Some (rows.bytes b)) key ms = ms

-- bytes as hexadecimal digits
abbrev pub put_hex : List ℕ → List ℕ → Members → Members
put_hex key b ms = put key (string (encode_lower b)) ms

-- a text; or a text in a table, with the table's name; or else its bytes at the key for bytes
abbrev pub put_text_of : Option (List ℕ) → Option (List ℕ × List ℕ) → List ℕ → List ℕ → Members → Members
put_text_of (Some text) tabled key b ms = put key (string text) ms
put_text_of None (Some x) key b ms = put (table_key key) (string x.0) (put key (string x.1) ms)
put_text_of None None key b ms = put_hex (hex_key key) b ms

-- the bytes of a text: as a text where they are one by themselves, or else in the table that they select, or else at the
-- key for bytes
abbrev pub put_text : List ℕ → List ℕ → Members → Members
put_text key b ms = put_text_of (text_of b) (tabled_text b) key b ms

-- the members with the attribute of a field of this kind and name; reserved bits have none
unfoldable pub put_attribute : Kind → List ℕ → Option Held → Members → Members
put_attribute (Number count) key value ms = put_number value key ms (λ n. number (unsigned n))
put_attribute (Reserved count) key value ms = put_unless (are_ones count) value key ms
put_attribute (Zeros count) key value ms = put_unless (λ n. nat_eq n 0) value key ms
put_attribute (Ones count) key value ms = ms
put_attribute (Free count) key value ms = ms
put_attribute Flag key value ms = put_number value key ms (λ n. boolean (nat_eq n 1))
put_attribute Start key value ms = put_number value key ms (λ n. string (start_text n))
put_attribute Duration key value ms = put_number value key ms (λ n. string (time_text n))
put_attribute (Decimal digits) key value ms = put_number value key ms (λ n. number (unsigned n))
put_attribute Language key value ms = put_bytes value ms (λ b. put key (string b) ms)
put_attribute CountedText key value ms = put_bytes value ms (λ b. put_text key b ms)
put_attribute Text key value ms = put_bytes value ms (λ b. put_text key b ms)
put_attribute Hex key value ms = put_bytes value ms (λ b. put_hex key b ms)
put_attribute CountedHex key value ms = put_bytes value ms (λ b. put_hex key b ms)

-- the members with the attributes of some rows that hold these values
unfoldable pub put_attributes : List Row → List Held → Members → Members
put_attributes [] values ms = ms
put_attributes (r ∷ rs) values ms =
    put_attributes rs (drop (holds r.kind) values) (put_attribute r.kind r.name (slice_get values 0) ms)

-- a language is shown where it is printable
abbrev pub is_shown : Kind → Option Held → Bool
is_shown Language (Some (rows.bytes b)) = are_printable b
is_shown _ _ = true

-- all values can be shown
unfoldable pub are_shown : List Row → List Held → Bool
are_shown [] values = true
are_shown (r ∷ rs) values = is_shown r.kind (slice_get values 0) && are_shown rs (drop (holds r.kind) values)

-- the keys that a field may be written under
abbrev pub is_key_of : Kind → List ℕ → List ℕ → Bool
is_key_of (Ones count) name key = false
is_key_of (Free count) name key = false
is_key_of CountedText name key = bytes_eq key name || (bytes_eq key (hex_key name) || bytes_eq key (table_key name))
is_key_of Text name key = bytes_eq key name || (bytes_eq key (hex_key name) || bytes_eq key (table_key name))
is_key_of _ name key = bytes_eq key name

-- the keys that the fields of some rows may be written under
abbrev pub is_key : List Row → List ℕ → Bool
is_key [] key = false
is_key (r ∷ rs) key = is_key_of r.kind r.name key || is_key rs key

-- no row has a key of an earlier one
abbrev pub keys_differ : List Row → Bool
keys_differ [] = true
keys_differ (r ∷ rs) =
    not (is_key rs r.name) && not (is_key rs (hex_key r.name)) && not (is_key rs (table_key r.name)) && keys_differ rs

-- a number, or the number of some bytes, in a row's range
abbrev pub value_within : Option (ℕ × ℕ) → Option Held → Bool
value_within range None = true
value_within range (Some (rows.number n)) = within range n
value_within range (Some (rows.bytes b)) = within range (length b)

-- values in the ranges of their rows
unfoldable pub are_within : List Row → List Held → Bool
are_within [] values = true
are_within (r ∷ rs) values =
    value_within r.range (slice_get values 0) && are_within rs (drop (holds r.kind) values)

-- rows that have no keys of the element itself either
abbrev pub rows_show : List Row → Bool
rows_show rs = keys_differ rs && (not (is_key rs name_key) && not (is_key rs nodes_key))

-- the members with the children of an element, where it may have some
abbrev pub put_nodes : Option Data → Members → Members
put_nodes None ms = ms
put_nodes (Some nodes) ms = put nodes_key nodes ms

-- the members of an element before its attributes
abbrev pub element_base : List ℕ → Option Data → Members
element_base called nodes = put_nodes nodes (put name_key (string called) no_members)

-- the members of an element of this name, with these rows, values and children
abbrev pub element_members : List Row → List ℕ → Option Data → List Held → Members
element_members rs called nodes values = put_attributes rs values (element_base called nodes)

-- Worked rows: the definitions computed.
use Rattle.std.proofs.Common.{◌≡◌, ◌∷◌, [], true, negsuc, refl}
use Rattle.std.specs.Prelude.{codes, Some, None, Ok, Err}
use Rattle.serde_json.specs.Data.{boolean, member, negative, no_members, null, number, object, string, unsigned}
use Rattle.std.specs.Str.{chars}
use lib.Utf8.{encode}
use Rattle.ts_charsets.specs.AlphabetTexts.{bytes_in}
use Rattle.ts_charsets.specs.TextTables.{bytes_by_table, table_named}
use Rattle.ts_fields.specs.declared.field.Kind.TheVariants.{Number, Text}
use Rattle.ts_jtree.specs.declared.fault.JsonKind.TheVariants.{OutOfRange, UnknownKey, WrongKind}
use Rattle.ts_jtree.specs.Attributes.{attribute_of, number_attribute, number_in, read_attributes, text_attribute}
use Rattle.ts_jtree.specs.Elements.{keys_known, name_of, read_element}
use Rattle.ts_jtree.specs.Faults.{fault_of}
use Rattle.ts_jtree.specs.Numbers.{bit_of, number_of, number_of_text}

-- numbers as texts, of any length
decimal-row : number_of (string (codes "007")) ≡ Some 7
unfolding number_of number_of_text
decimal-row = refl

hexadecimal-row : number_of (string (codes "0x1F")) ≡ Some 31
unfolding number_of number_of_text
hexadecimal-row = refl

long-row : number_of (string (codes "18446744073709551616")) ≡ Some 18446744073709551616
unfolding number_of number_of_text
long-row = refl

-- no digits, and a sign
sign-row : number_of (string (codes "0x")) ≡ None
unfolding number_of number_of_text
sign-row = refl

plus-row : number_of (string (codes "+7")) ≡ None
unfolding number_of number_of_text
plus-row = refl

-- a negative number gives none
negative-row : number_of (number (negative (negsuc 0))) ≡ None
unfolding number_of
negative-row = refl

-- a Boolean, its word, and what is neither
truth-row : bit_of (boolean true) ≡ Some 1
unfolding bit_of
truth-row = refl

word-row : bit_of (string (codes "false")) ≡ Some 0
unfolding bit_of
word-row = refl

null-row : bit_of null ≡ None
unfolding bit_of
null-row = refl

-- of two wrong attributes the first row's is reported, whatever is wrong with it
first-row : read_attributes (record { name = codes "b"; kind = Number 8; absent = None; range = None } ∷ record { name = codes "a"; kind = Number 8; absent = None; range = None } ∷ [])
    (member (codes "b") (number (unsigned 256)) no_members) ≡ Err (fault_of (codes "b") OutOfRange)
unfolding read_attributes attribute_of number_attribute number_in number_of
first-row = refl

-- a text and its bytes are one key too many
both-row : read_element (codes "e") (record { name = codes "k"; kind = Text; absent = None; range = None } ∷ [])
    (object (member (codes "#name") (string (codes "e")) (member (codes "k") (string []) (member (codes "k_hex") (string []) no_members))))
    ≡ Err (fault_of (codes "k_hex") UnknownKey)
unfolding read_element name_of keys_known
both-row = refl

-- a table without a text is one too
table-row : read_element (codes "e") (record { name = codes "k"; kind = Text; absent = None; range = None } ∷ [])
    (object (member (codes "#name") (string (codes "e")) (member (codes "k_table") (string (codes "UTF-8")) no_members)))
    ≡ Err (fault_of (codes "k_table") UnknownKey)
unfolding read_element name_of keys_known
table-row = refl

-- U+00FC in ISO 8859-9, in a table that is unknown, and in one that lacks it
in-table : text_attribute (codes "k") (member (codes "k") (string (0xC3 ∷ 0xBC ∷ [])) (member (codes "k_table") (string (codes "ISO-8859-9")) no_members))
    ≡ Ok (0x05 ∷ 0xFC ∷ [])
unfolding text_attribute bytes_by_table bytes_in chars encode table_named
in-table = refl

unknown-table : text_attribute (codes "k") (member (codes "k") (string (0xC3 ∷ 0xBC ∷ [])) (member (codes "k_table") (string (codes "Latin-1")) no_members))
    ≡ Err (fault_of (codes "k_table") WrongKind)
unfolding text_attribute table_named
unknown-table = refl

no-character : text_attribute (codes "k") (member (codes "k") (string (0xC3 ∷ 0xBC ∷ [])) (member (codes "k_table") (string (codes "ISO-8859-5")) no_members))
    ≡ Err (fault_of (codes "k") OutOfRange)
unfolding text_attribute bytes_by_table bytes_in chars encode table_named
no-character = refl

-- The character tables of texts, by their selecting bytes.
-- ETSI EN 300 468, annex A, A.2, tables A.3 and A.4: the first bytes of a text select its table. A text without such
-- bytes is in the table of figure A.1; none of its characters begins with a byte below 0x20. The names are this
-- project's own.
use Rattle.std.specs.Prelude.{ℕ, ◌&&◌, List, [], ◌∷◌, ◌++◌, drop, length, nat_eq, codes, chars, encode_utf8_all, Bool, true, false, not, bytes_eq, if◌then◌else◌, Option, Some, None, option_map, option_and_then}
use Rattle.std.specs.List.{find, starts_with}
use Rattle.std.specs.Str.{is_utf8}
use Rattle.ts_charsets.specs.declared.charset.Charset.{Charset}
use Rattle.ts_charsets.specs.declared.charset.Charset.TheVariants.{Latin, Part1, Part2, Part3, Part4, Part5, Part6, Part7, Part8, Part9, Part10, Part11, Part13, Part14, Part15, Utf16, Utf8}
use Rattle.ts_charsets.specs.declared.text_table.TextTable as code
use Rattle.ts_charsets.specs.Alphabets.{Alphabet}
use Rattle.ts_charsets.specs.AlphabetTexts.{chars_in, bytes_in}
use Rattle.ts_charsets.specs.KnownAlphabets.{alphabet_for}

pub record TextTable : Type 0 where
  pub name : List ℕ
  pub selects : List ℕ
  pub charset : Charset

-- the table of one of the code
abbrev pub text_table : code.TextTable → TextTable
text_table t = record { name = t.name.now; selects = t.selects.now; charset = t.charset }

abbrev row : List ℕ → List ℕ → Charset → TextTable
row called bytes set = record { name = called; selects = bytes; charset = set }

-- the tables, in the order of their selecting bytes; the one without such bytes is the last
abbrev pub text_tables : List TextTable
text_tables =
    row (codes "ISO-8859-5") (0x01 ∷ []) Part5
    ∷ row (codes "ISO-8859-6") (0x02 ∷ []) Part6
    ∷ row (codes "ISO-8859-7") (0x03 ∷ []) Part7
    ∷ row (codes "ISO-8859-8") (0x04 ∷ []) Part8
    ∷ row (codes "ISO-8859-9") (0x05 ∷ []) Part9
    ∷ row (codes "ISO-8859-10") (0x06 ∷ []) Part10
    ∷ row (codes "ISO-8859-11") (0x07 ∷ []) Part11
    ∷ row (codes "ISO-8859-13") (0x09 ∷ []) Part13
    ∷ row (codes "ISO-8859-14") (0x0A ∷ []) Part14
    ∷ row (codes "ISO-8859-15") (0x0B ∷ []) Part15
    ∷ row (codes "ISO-8859-1-long") (0x10 ∷ 0x00 ∷ 0x01 ∷ []) Part1
    ∷ row (codes "ISO-8859-2-long") (0x10 ∷ 0x00 ∷ 0x02 ∷ []) Part2
    ∷ row (codes "ISO-8859-3-long") (0x10 ∷ 0x00 ∷ 0x03 ∷ []) Part3
    ∷ row (codes "ISO-8859-4-long") (0x10 ∷ 0x00 ∷ 0x04 ∷ []) Part4
    ∷ row (codes "ISO-8859-5-long") (0x10 ∷ 0x00 ∷ 0x05 ∷ []) Part5
    ∷ row (codes "ISO-8859-6-long") (0x10 ∷ 0x00 ∷ 0x06 ∷ []) Part6
    ∷ row (codes "ISO-8859-7-long") (0x10 ∷ 0x00 ∷ 0x07 ∷ []) Part7
    ∷ row (codes "ISO-8859-8-long") (0x10 ∷ 0x00 ∷ 0x08 ∷ []) Part8
    ∷ row (codes "ISO-8859-9-long") (0x10 ∷ 0x00 ∷ 0x09 ∷ []) Part9
    ∷ row (codes "ISO-8859-10-long") (0x10 ∷ 0x00 ∷ 0x0A ∷ []) Part10
    ∷ row (codes "ISO-8859-11-long") (0x10 ∷ 0x00 ∷ 0x0B ∷ []) Part11
    ∷ row (codes "ISO-8859-13-long") (0x10 ∷ 0x00 ∷ 0x0D ∷ []) Part13
    ∷ row (codes "ISO-8859-14-long") (0x10 ∷ 0x00 ∷ 0x0E ∷ []) Part14
    ∷ row (codes "ISO-8859-15-long") (0x10 ∷ 0x00 ∷ 0x0F ∷ []) Part15
    ∷ row (codes "UTF-16") (0x11 ∷ []) Utf16
    ∷ row (codes "UTF-8") (0x15 ∷ []) Utf8
    ∷ row (codes "ISO-6937") [] Latin
    ∷ []

-- the first table whose selecting bytes a text begins with
abbrev pub selected_in : List TextTable → List ℕ → Option TextTable
selected_in tables b = find (λ t. starts_with nat_eq b t.selects) tables

-- the table of this name
abbrev pub named_in : List TextTable → List ℕ → Option TextTable
named_in tables name = find (λ t. bytes_eq t.name name) tables

unfoldable pub table_named : List ℕ → Option TextTable
table_named name = named_in text_tables name

-- the text of bytes in an alphabet, or in UTF-8
abbrev pub text_by : Option Alphabet → List ℕ → Option (List ℕ)
text_by None b = if is_utf8 b then Some b else None
text_by (Some a) b = option_map encode_utf8_all (chars_in a b)

-- the bytes of a text in an alphabet, or in UTF-8
abbrev pub bytes_by : Option Alphabet → List ℕ → Option (List ℕ)
bytes_by None text = Some text
bytes_by (Some a) text = bytes_in a (chars text)

-- the text of the bytes after those that select the table
abbrev pub text_after : TextTable → List ℕ → Option (List ℕ)
text_after t b = text_by (alphabet_for t.charset) (drop (length t.selects) b)

-- the name of the table that bytes select, and their text in it; none where it has no character for some
unfoldable pub tabled_text : List ℕ → Option (List ℕ × List ℕ)
tabled_text b =
    option_and_then (λ t. option_map (λ text. (t.name, text)) (text_after t b)) (selected_in text_tables b)

-- the bytes of a text in a table, after those that select it; none where the table lacks a character
unfoldable pub bytes_by_table : TextTable → List ℕ → Option (List ℕ)
bytes_by_table t text = option_map (λ b. t.selects ++ b) (bytes_by (alphabet_for t.charset) text)

-- the bytes of a text in the table of this name; none where there is no such table, or where it lacks a character
abbrev pub tabled_bytes : List ℕ → List ℕ → Option (List ℕ)
tabled_bytes name text = option_and_then (λ t. bytes_by_table t text) (table_named name)

-- no table has the name of a later one
abbrev pub has_name : List TextTable → List ℕ → Bool
has_name [] name = false
has_name (t ∷ ts) name = if bytes_eq t.name name then true else has_name ts name

abbrev pub names_differ : List TextTable → Bool
names_differ [] = true
names_differ (t ∷ ts) = not (has_name ts t.name) && names_differ ts

-- The alphabets of annex A by their names.
-- ETSI EN 300 468, annex A: figure A.1 and ISO/IEC 8859, parts 1 to 11 and 13 to 15. UTF-8 has no alphabet: its texts
-- are the texts of the programs.
use Rattle.std.specs.Prelude.{ℕ, List, [], Option, Some, None}
use Rattle.ts_charsets.specs.declared.charset.Charset.{Charset}
use Rattle.ts_charsets.specs.declared.charset.Charset.TheVariants.{Latin, Part1, Part2, Part3, Part4, Part5, Part6, Part7, Part8, Part9, Part10, Part11, Part13, Part14, Part15, Utf16, Utf8}
use Rattle.ts_charsets.specs.declared.tables.TheConstants.{LATIN, ACCENTED, ISO_8859_1, ISO_8859_2, ISO_8859_3, ISO_8859_4, ISO_8859_5, ISO_8859_6, ISO_8859_7, ISO_8859_8, ISO_8859_9, ISO_8859_10, ISO_8859_11, ISO_8859_13, ISO_8859_14, ISO_8859_15}
use Rattle.ts_charsets.specs.CharTables.{Table}
use Rattle.ts_charsets.specs.Alphabets.{Alphabet, single, double}

-- ISO/IEC 6937 with the euro sign
abbrev pub latin : Table
latin = record { upper = LATIN; accented = ACCENTED }

-- a table without accented letters of two bytes
abbrev pub plain : List ℕ → Option Alphabet
plain characters = Some (single (record { upper = characters; accented = [] }))

-- the alphabet of a character set
abbrev pub alphabet_for : Charset → Option Alphabet
alphabet_for Latin = Some (single latin)
alphabet_for Part1 = plain ISO_8859_1
alphabet_for Part2 = plain ISO_8859_2
alphabet_for Part3 = plain ISO_8859_3
alphabet_for Part4 = plain ISO_8859_4
alphabet_for Part5 = plain ISO_8859_5
alphabet_for Part6 = plain ISO_8859_6
alphabet_for Part7 = plain ISO_8859_7
alphabet_for Part8 = plain ISO_8859_8
alphabet_for Part9 = plain ISO_8859_9
alphabet_for Part10 = plain ISO_8859_10
alphabet_for Part11 = plain ISO_8859_11
alphabet_for Part13 = plain ISO_8859_13
alphabet_for Part14 = plain ISO_8859_14
alphabet_for Part15 = plain ISO_8859_15
alphabet_for Utf16 = Some double
alphabet_for Utf8 = None

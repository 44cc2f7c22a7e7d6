-- Worked rows: names in other tools' streams, and others, computed on the definitions.
use Rattle.std.proofs.Common.{◌≡◌, ◌∷◌, [], ◌++◌, codes, refl, None, Some}
use Rattle.std.specs.Str.{chars, is_utf8}
use lib.Utf8.{encode}
use Rattle.ts_charsets.specs.AlphabetTexts.{bytes_in, double_chars, single_chars}
use Rattle.ts_charsets.specs.TextTables.{bytes_by_table, table_named, tabled_bytes, tabled_text}

-- names of a stream of libdvbpsi's: "Réseau autre", "Český rozhlas", "ΕΡΤ", "Первый"
network-row : tabled_text (0x52 ∷ 0xC2 ∷ 0x65 ∷ codes "seau autre") ≡ Some (codes "ISO-6937", 0x52 ∷ 0xC3 ∷ 0xA9 ∷ codes "seau autre")
unfolding chars encode is_utf8 single_chars tabled_text
network-row = refl

czech-row : tabled_text (0x10 ∷ 0x00 ∷ 0x02 ∷ 0xC8 ∷ 0x65 ∷ 0x73 ∷ 0x6B ∷ 0xFD ∷ codes " rozhlas")
    ≡ Some (codes "ISO-8859-2-long", 0xC4 ∷ 0x8C ∷ 0x65 ∷ 0x73 ∷ 0x6B ∷ 0xC3 ∷ 0xBD ∷ codes " rozhlas")
unfolding chars encode is_utf8 single_chars tabled_text
czech-row = refl

greek-row : tabled_text (0x03 ∷ 0xC5 ∷ 0xD1 ∷ 0xD4 ∷ []) ≡ Some (codes "ISO-8859-7", 0xCE ∷ 0x95 ∷ 0xCE ∷ 0xA1 ∷ 0xCE ∷ 0xA4 ∷ [])
unfolding chars encode is_utf8 single_chars tabled_text
greek-row = refl

russian-row : tabled_text (0x01 ∷ 0xBF ∷ 0xD5 ∷ 0xE0 ∷ 0xD2 ∷ 0xEB ∷ 0xD9 ∷ [])
    ≡ Some (codes "ISO-8859-5", 0xD0 ∷ 0x9F ∷ 0xD0 ∷ 0xB5 ∷ 0xD1 ∷ 0x80 ∷ 0xD0 ∷ 0xB2 ∷ 0xD1 ∷ 0x8B ∷ 0xD0 ∷ 0xB9 ∷ [])
unfolding chars encode is_utf8 single_chars tabled_text
russian-row = refl

-- "Das Erste ü", and back
german-row : tabled_text (0x05 ∷ (codes "Das Erste " ++ (0xFC ∷ []))) ≡ Some (codes "ISO-8859-9", codes "Das Erste " ++ (0xC3 ∷ 0xBC ∷ []))
unfolding chars encode is_utf8 single_chars tabled_text
german-row = refl

german-bytes : tabled_bytes (codes "ISO-8859-9") (codes "Das Erste " ++ (0xC3 ∷ 0xBC ∷ [])) ≡ Some (0x05 ∷ (codes "Das Erste " ++ (0xFC ∷ [])))
unfolding bytes_by_table bytes_in chars encode is_utf8 table_named
german-bytes = refl

-- a Cyrillic letter is not in ISO 8859-9
missing-row : tabled_bytes (codes "ISO-8859-9") (0xD0 ∷ 0x9F ∷ []) ≡ None
unfolding bytes_by_table bytes_in chars encode is_utf8 table_named
missing-row = refl

-- two bytes a character, with a line break; and a last byte that stands alone
double-row : tabled_text (0x11 ∷ 0x00 ∷ 0x41 ∷ 0xE0 ∷ 0x8A ∷ []) ≡ Some (codes "UTF-16", 0x41 ∷ 0x0A ∷ [])
unfolding chars double_chars encode is_utf8 tabled_text
double-row = refl

alone-row : tabled_text (0x11 ∷ 0x00 ∷ 0x41 ∷ 0xE0 ∷ []) ≡ None
unfolding chars double_chars encode is_utf8 tabled_text
alone-row = refl

-- an accent without a letter, and a selecting byte of no table
accent-row : tabled_text (0x61 ∷ 0xC2 ∷ []) ≡ None
unfolding chars encode is_utf8 single_chars tabled_text
accent-row = refl

reserved-row : tabled_text (0x08 ∷ 0x41 ∷ []) ≡ None
unfolding chars encode is_utf8 single_chars tabled_text
reserved-row = refl

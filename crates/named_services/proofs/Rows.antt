-- Worked rows, computed on the definitions.
use Rattle.std.proofs.Common.{◌≡◌, ℕ, true, false, List, [], ◌∷◌, ◌++◌, codes, length, map, Option, None, Some, refl}
use Rattle.ts_bits.specs.TaggedBody.{TaggedBody}
use Rattle.std.specs.Str.{chars, is_utf8}
use lib.Utf8.{encode}
use Rattle.ts_charsets.specs.AlphabetTexts.{single_chars}
use Rattle.ts_charsets.specs.ShownTexts.{shown_text}
use Rattle.ts_charsets.specs.TextTables.{tabled_text}
use Rattle.ts_table_rows.specs.TableValues.{ItemHolding, TableHolding}
use Rattle.plug_psi.proofs.RowTables.{item_of, table_of}
use Rattle.plugin_options.specs.Number.{number_of}
use Rattle.named_services.specs.NamedServices.{numbers_by, service_named, shown_name}
use Rattle.named_services.specs.ServiceLists.{each_once}
use Rattle.named_services.specs.ServiceWords.{words_of}
use Rattle.named_services.specs.declared.service_word.ServiceWord.{ServiceWord}
use Rattle.named_services.specs.declared.service_word.ServiceWord.TheVariants.{Number, Name}

-- "5", "A" and "0x5" are the number 5, a name and the number 5 again; a number that no service can have and the empty word are none
words-row : words_of (codes "5" ∷ codes "A" ∷ codes "0x5" ∷ codes "0" ∷ codes "65536" ∷ [] ∷ codes "5 A" ∷ codes "A" ∷ [])
    ≡ Number 5 ∷ Name (codes "A") ∷ Name (codes "5 A") ∷ []
unfolding number_of
words-row = refl

-- a service with the provider "p" and a name of these bytes
abbrev service_row : ℕ → List ℕ → ItemHolding
service_row id name = item_of id 0 (record { tag = 0x40; body = codes "A" } ∷ record { tag = 0x48; body = 1 ∷ 1 ∷ 0x70 ∷ length name ∷ name } ∷ [])

-- services 5 and 9 are named "A", and 7 is named "5"; 11 has the name of a Russian channel by ISO/IEC 8859-5, 12 has "B" between
-- the control codes of emphasis, 13 a byte without a character, and 14 no service_descriptor
abbrev sdt_row : Option TableHolding
sdt_row = Some (table_of 0x42 1 [] []
    (service_row 5 (codes "A") ∷ service_row 7 (codes "5") ∷ service_row 9 (codes "A") ∷ service_row 11 (0x01 ∷ 0xBF ∷ 0xD5 ∷ [])
    ∷ service_row 12 (0x86 ∷ 0x42 ∷ 0x87 ∷ []) ∷ service_row 13 (0x41 ∷ 0x80 ∷ []) ∷ item_of 14 0 [] ∷ []))

-- of two services with one name it is the first
first-row : service_named (codes "A") sdt_row ≡ Some 5
unfolding shown_text tabled_text single_chars is_utf8 chars encode
first-row = refl

-- a name is compared as the text that is shown, and not as bytes
shown-row : map (λ name. service_named name sdt_row) ((0xD0 ∷ 0x9F ∷ 0xD0 ∷ 0xB5 ∷ []) ∷ (0x01 ∷ 0xBF ∷ 0xD5 ∷ []) ∷ codes "B" ∷ codes "b" ∷ codes "C" ∷ [])
    ≡ Some 11 ∷ None ∷ Some 12 ∷ None ∷ None ∷ []
unfolding shown_text tabled_text single_chars is_utf8 chars encode
shown-row = refl

-- a name with a byte that has no character is not shown, and no descriptor tells none
none-row : map (shown_name sdt_row) (13 ∷ 14 ∷ 15 ∷ []) ≡ None ∷ None ∷ None ∷ []
unfolding shown_text tabled_text single_chars is_utf8 chars encode
none-row = refl

-- the number 5 is service 5, also where another service has the name "5"; words that mean the same service count once, and a name
-- that no service has means none
meant-row : numbers_by (Number 7 ∷ Name (codes "A") ∷ Number 5 ∷ Name (codes "C") ∷ Number 3 ∷ []) sdt_row ≡ 7 ∷ 5 ∷ 3 ∷ []
unfolding shown_text tabled_text single_chars is_utf8 chars encode
meant-row = refl

-- before an SDT a name means none
early-row : numbers_by (Name (codes "A") ∷ Number 3 ∷ []) None ≡ 3 ∷ []
early-row = refl

-- a service that is there twice counts once
once-row : each_once (769 ∷ 770 ∷ 769 ∷ 769 ∷ 1 ∷ []) ≡ 769 ∷ 770 ∷ 1 ∷ []
once-row = refl

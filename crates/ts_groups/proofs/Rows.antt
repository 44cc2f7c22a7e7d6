-- Worked rows: the definitions computed.
use Rattle.std.proofs.Common.{◌≡◌, ℕ, List, ◌∷◌, [], refl}
use Rattle.std.specs.Prelude.{Some, None, codes, option_map}
use Rattle.ts_fields.specs.declared.field.Kind.TheVariants.{Number, Flag, Zeros, Hex}
use Rattle.ts_fields.specs.declared.field.Kind.{Kind}
use Rattle.ts_fields.specs.Bits.{bits, bits_of, number_of}
use Rattle.ts_fields.specs.Layout.{Row, number, bytes}
use Rattle.ts_fields.specs.Reading.{read_field, read_number, read_bytes, read_rest, read_rows}
use Rattle.ts_fields.specs.Spelling.{spell_field, spell_rows}
use Rattle.ts_fields.specs.Bodies.{Page, read_after, read_page, spell_page}
use Rattle.ts_groups.specs.Groups.{Group, page_with, read_grouped}

abbrev row_of : List ℕ → Kind → Row
row_of called kind = record { name = called; kind = kind; absent = None; range = None }

abbrev by_flag : ℕ → List ℕ → Group
by_flag place called = record { when = Some (place, 1 ∷ []); rows = row_of called (Number 8) ∷ [] }

-- the AC-3 descriptor: four flags, reserved bits, four bytes that are there by the flags, and further bytes
abbrev ac3 : Page
ac3 = record {
  tag = 0x6A;
  name = codes "AC3_descriptor";
  head = row_of (codes "component_type_flag") Flag ∷ row_of (codes "bsid_flag") Flag ∷ row_of (codes "mainid_flag") Flag ∷ row_of (codes "asvc_flag") Flag ∷ row_of (codes "reserved") (Zeros 4) ∷ [];
  items = None;
  counted = None;
}

abbrev ac3_groups : List Group
ac3_groups =
    by_flag 0 (codes "component_type") ∷ by_flag 1 (codes "bsid") ∷ by_flag 2 (codes "mainid") ∷ by_flag 3 (codes "asvc")
    ∷ record { when = None; rows = row_of (codes "additional_info") Hex ∷ [] } ∷ []

-- two of the four, and a further byte
ac3-row : option_map (λ x. x.1.head) (read_grouped ac3 ac3_groups (bits_of (0xA0 ∷ 0x42 ∷ 0x07 ∷ 0xDE ∷ [])))
    ≡ Some (number 1 ∷ number 0 ∷ number 1 ∷ number 0 ∷ number 0 ∷ number 0x42 ∷ number 7 ∷ bytes (0xDE ∷ []) ∷ [])
unfolding bits number_of read_number read_bytes read_rest read_field read_rows read_page read_after read_grouped
ac3-row = refl

-- without flags all bytes behind are further ones
bare-row : option_map (λ x. x.1.head) (read_grouped ac3 ac3_groups (bits_of (0x00 ∷ 0x42 ∷ [])))
    ≡ Some (number 0 ∷ number 0 ∷ number 0 ∷ number 0 ∷ number 0 ∷ bytes (0x42 ∷ []) ∷ [])
unfolding bits number_of read_number read_bytes read_rest read_field read_rows read_page read_after read_grouped
bare-row = refl

-- a byte that a flag calls for is missing
missing-row : read_grouped ac3 ac3_groups (bits_of (0xA0 ∷ 0x42 ∷ [])) ≡ None
unfolding bits number_of read_number read_bytes read_rest read_field read_rows read_page read_after read_grouped
missing-row = refl

-- what is written for these values
written-row : spell_page (page_with ac3 ac3_groups (number 0 ∷ number 1 ∷ []))
    (record { head = number 0 ∷ number 1 ∷ number 0 ∷ number 0 ∷ number 0 ∷ number 8 ∷ bytes [] ∷ []; items = [] })
    ≡ bits_of (0x40 ∷ 0x08 ∷ [])
unfolding bits spell_field spell_rows spell_page
written-row = refl

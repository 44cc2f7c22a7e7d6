-- Worked rows: the definitions computed.
use Rattle.std.proofs.Common.{◌≡◌, ℕ, List, ◌∷◌, [], map, refl}
use Rattle.std.specs.Prelude.{Some, None, codes, option_map}
use Rattle.ts_fields.specs.declared.field.Kind.TheVariants.{Number, Flag, Ones, Language, CountedText}
use Rattle.ts_fields.specs.declared.field.Kind.{Kind}
use Rattle.ts_fields.specs.Bits.{bits, bits_of, number_of}
use Rattle.ts_fields.specs.Layout.{Row, number, bytes}
use Rattle.ts_fields.specs.Reading.{read_field, read_number, read_bytes, read_rows}
use Rattle.ts_fields.specs.Spelling.{spell_field, spell_rows}
use Rattle.ts_fields.specs.Bodies.{Page, read_items, read_loop, spell_page}
use Rattle.ts_groups.specs.Groups.{by_value}
use Rattle.ts_item_forms.specs.ItemForms.{Form, page_by, read_each, read_formed, read_item, spell_formed}

abbrev row_of : List ℕ → Kind → Row
row_of called kind = record { name = called; kind = kind; absent = None; range = None }

abbrev of_rows : List Row → Page
of_rows rs = record { tag = 0; name = codes "descriptor"; head = rs; items = None; counted = None }

-- names of contents: their own, or a number of them
abbrev contents : Form
contents = record {
  name = codes "CRID";
  head = row_of (codes "crid_type") (Number 6) ∷ row_of (codes "crid_location") (Number 2) ∷ [];
  groups =
      by_value 1 (0 ∷ []) (row_of (codes "crid") CountedText ∷ [])
      ∷ by_value 1 (1 ∷ []) (row_of (codes "crid_ref") (Number 16) ∷ []) ∷ [];
  inner = None;
}

-- a name of two letters, a number, and one that has neither
three-row : option_map (λ h. map (λ x. x.1.head) h.items) (read_formed (of_rows []) contents (bits_of (0xC4 ∷ 0x02 ∷ 0x2F ∷ 0x61 ∷ 0xC9 ∷ 0x12 ∷ 0x34 ∷ 0x06 ∷ [])))
    ≡ Some (
    (number 49 ∷ number 0 ∷ bytes (codes "/a") ∷ [])
    ∷ (number 50 ∷ number 1 ∷ number 0x1234 ∷ [])
    ∷ (number 1 ∷ number 2 ∷ []) ∷ [])
unfolding bits number_of read_number read_bytes read_field read_rows read_item read_each read_formed
three-row = refl

-- a name that is shorter than its length says
short-row : read_formed (of_rows []) contents (bits_of (0xC4 ∷ 0x03 ∷ 0x2F ∷ 0x61 ∷ [])) ≡ None
unfolding bits number_of read_number read_bytes read_field read_rows read_item read_each read_formed
short-row = refl

-- what is written for these values
written-row : spell_formed (of_rows []) (record {
  head = [];
  items = (page_by contents (number 49 ∷ number 1 ∷ []), record { head = number 49 ∷ number 1 ∷ number 7 ∷ []; items = [] }) ∷ [];
}) ≡ bits_of (0xC5 ∷ 0x00 ∷ 0x07 ∷ [])
unfolding bits spell_field spell_rows spell_page
written-row = refl

-- lists of services, each with its own name
abbrev lists : Form
lists = record {
  name = codes "list";
  head = row_of (codes "channel_list_id") (Number 8) ∷ row_of (codes "channel_list_name") CountedText ∷ row_of (codes "country_code") Language ∷ [];
  groups = [];
  inner = Some (codes "service", row_of (codes "service_id") (Number 16) ∷ row_of (codes "visible_service") Flag ∷ row_of [] (Ones 5) ∷ row_of (codes "logical_channel_number") (Number 10) ∷ []);
}

-- a list of one service, and one of none
lists-row : option_map (λ h. map (λ x. x.1) h.items) (read_formed (of_rows []) lists (bits_of (0x01 ∷ 0x01 ∷ 0x41 ∷ 0x73 ∷ 0x77 ∷ 0x65 ∷ 0x04 ∷ 0x00 ∷ 0x0A ∷ 0xFC ∷ 0x03 ∷ 0x02 ∷ 0x00 ∷ 0x66 ∷ 0x69 ∷ 0x6E ∷ 0x00 ∷ [])))
    ≡ Some (
    record {
      head = number 1 ∷ bytes (codes "A") ∷ bytes (codes "swe") ∷ [];
      items = (number 10 ∷ number 1 ∷ number 3 ∷ []) ∷ [];
    }
    ∷ record { head = number 2 ∷ bytes [] ∷ bytes (codes "fin") ∷ []; items = [] } ∷ [])
unfolding bits number_of read_number read_bytes read_field read_rows read_items read_loop read_item read_each read_formed
lists-row = refl

-- a length of the inner items that cuts a service
cut-row : read_formed (of_rows []) lists (bits_of (0x01 ∷ 0x01 ∷ 0x41 ∷ 0x73 ∷ 0x77 ∷ 0x65 ∷ 0x03 ∷ 0x00 ∷ 0x0A ∷ 0xFC ∷ [])) ≡ None
unfolding bits number_of read_number read_bytes read_field read_rows read_items read_loop read_item read_each read_formed
cut-row = refl

-- what is written for a list of one service
list-row : spell_formed (of_rows []) (record {
  head = [];
  items = (
    page_by lists [],
    record {
      head = number 1 ∷ bytes (codes "A") ∷ bytes (codes "swe") ∷ [];
      items = (number 10 ∷ number 0 ∷ number 3 ∷ []) ∷ [];
    },
  ) ∷ [];
}) ≡ bits_of (0x01 ∷ 0x01 ∷ 0x41 ∷ 0x73 ∷ 0x77 ∷ 0x65 ∷ 0x04 ∷ 0x00 ∷ 0x0A ∷ 0x7C ∷ 0x03 ∷ [])
unfolding bits spell_field spell_rows spell_page
list-row = refl

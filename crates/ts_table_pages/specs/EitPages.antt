-- The EIT as the standard lays it out.
-- ETSI EN 300 468, 5.2.4: table_id 0x4E to 0x6F, at most 4093 bytes after section_length. That each section is a
-- table by itself, which keeps section_number and last_section_number, is this project's own rule.
use Rattle.std.specs.Prelude.{List, [], ◌∷◌, codes, true, false, Some}
use Rattle.ts_fields.specs.declared.field.Kind.TheVariants.{Number, Flag, Start, Duration}
use Rattle.ts_fields.specs.Layout.{Row}
use Rattle.ts_table_rows.specs.declared.layout.LoopForm.TheVariants.{Absent}
use Rattle.ts_table_rows.specs.RowWords.{field, field_or}
use Rattle.ts_table_rows.specs.TablePages.{ItemPage, TablePage}

-- an event: event_id 16, start_time 40, duration 24, running_status 3, free_CA_mode 1, descriptors_loop_length 12,
-- descriptors
abbrev pub event_page : ItemPage
event_page = record {
  name = codes "event";
  rows =
      field (codes "event_id") (Number 16)
      ∷ field (codes "start_time") Start
      ∷ field (codes "duration") Duration
      ∷ field_or (codes "running_status") (Number 3) 0
      ∷ field_or (codes "CA_mode") Flag 0
      ∷ [];
  described = true;
  counted = false;
}

-- the fields that all sections of an EIT have in common: transport_stream_id 16, original_network_id 16
abbrev pub eit_common_rows : List Row
eit_common_rows =
    field (codes "transport_stream_id") (Number 16)
    ∷ field (codes "original_network_id") (Number 16)
    ∷ []

-- the fields after them: segment_last_section_number 8, last_table_id 8
abbrev pub eit_head_rows : List Row
eit_head_rows =
    field_or (codes "segment_last_section_number") (Number 8) 0
    ∷ field (codes "last_table_id") (Number 8)
    ∷ []

-- these fields, then events
abbrev pub eit_page : TablePage
eit_page = record {
  name = codes "EIT";
  ids = (0x4E, 0x6F) ∷ [];
  extension = codes "service_id";
  private_bit = true;
  most = 4093;
  single = true;
  keeps_numbers = true;
  common = eit_common_rows;
  head = eit_head_rows;
  loop_form = Absent;
  items = Some event_page;
  one_zero = false;
}

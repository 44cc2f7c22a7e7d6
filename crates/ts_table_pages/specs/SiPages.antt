-- The NIT, the BAT and the SDT as the standard lays them out.
-- ETSI EN 300 468, 5.2.1 (NIT), 5.2.2 (BAT), 5.2.3 (SDT): at most 1021 bytes after section_length.
use Rattle.std.specs.Prelude.{List, [], ◌∷◌, codes, true, false, Some}
use Rattle.ts_fields.specs.declared.field.Kind.TheVariants.{Number, Flag}
use Rattle.ts_fields.specs.Layout.{Row}
use Rattle.ts_table_rows.specs.declared.layout.LoopForm.TheVariants.{Absent, Counted}
use Rattle.ts_table_rows.specs.RowWords.{field, field_or, reserved}
use Rattle.ts_table_rows.specs.TablePages.{ItemPage, TablePage}

-- a transport stream of a NIT or a BAT (5.2.1, 5.2.2): transport_stream_id 16, original_network_id 16, reserved 4,
-- transport_descriptors_length 12, descriptors
abbrev pub stream_page : ItemPage
stream_page = record {
  name = codes "transport_stream";
  rows =
      field (codes "transport_stream_id") (Number 16)
      ∷ field (codes "original_network_id") (Number 16)
      ∷ reserved 4
      ∷ [];
  described = true;
  counted = true;
}

-- the fields of a NIT or a BAT outside the transport streams (5.2.1, 5.2.2): reserved 4
abbrev pub network_rows : List Row
network_rows = reserved 4 ∷ []

-- 5.2.1: these fields, then network_descriptors_length 12, descriptors; reserved 4, transport_stream_loop_length 12,
-- transport streams
abbrev pub nit_page : TablePage
nit_page = record {
  name = codes "NIT";
  ids = (0x40, 0x40) ∷ (0x41, 0x41) ∷ [];
  extension = codes "network_id";
  private_bit = true;
  most = 1021;
  single = false;
  keeps_numbers = false;
  common = [];
  head = network_rows;
  loop_form = Counted;
  items = Some stream_page;
  one_zero = false;
}

-- 5.2.2: these fields, then bouquet_descriptors_length 12, descriptors; reserved 4, transport_stream_loop_length 12,
-- transport streams
abbrev pub bat_page : TablePage
bat_page = record {
  name = codes "BAT";
  ids = (0x4A, 0x4A) ∷ [];
  extension = codes "bouquet_id";
  private_bit = true;
  most = 1021;
  single = false;
  keeps_numbers = false;
  common = [];
  head = network_rows;
  loop_form = Counted;
  items = Some stream_page;
  one_zero = false;
}

-- a service of an SDT (5.2.3): service_id 16, reserved 6, EIT_schedule_flag 1, EIT_present_following_flag 1,
-- running_status 3, free_CA_mode 1, descriptors_loop_length 12, descriptors
abbrev pub service_page : ItemPage
service_page = record {
  name = codes "service";
  rows =
      field (codes "service_id") (Number 16)
      ∷ reserved 6
      ∷ field_or (codes "EIT_schedule") Flag 0
      ∷ field_or (codes "EIT_present_following") Flag 0
      ∷ field_or (codes "running_status") (Number 3) 0
      ∷ field_or (codes "CA_mode") Flag 0
      ∷ [];
  described = true;
  counted = false;
}

-- the field that all sections of an SDT have in common (5.2.3): original_network_id 16
abbrev pub sdt_common_rows : List Row
sdt_common_rows = field (codes "original_network_id") (Number 16) ∷ []

-- the field after it (5.2.3): reserved 8
abbrev pub sdt_head_rows : List Row
sdt_head_rows = reserved 8 ∷ []

-- 5.2.3: these fields, then services
abbrev pub sdt_page : TablePage
sdt_page = record {
  name = codes "SDT";
  ids = (0x42, 0x42) ∷ (0x46, 0x46) ∷ [];
  extension = codes "transport_stream_id";
  private_bit = true;
  most = 1021;
  single = false;
  keeps_numbers = false;
  common = sdt_common_rows;
  head = sdt_head_rows;
  loop_form = Absent;
  items = Some service_page;
  one_zero = false;
}

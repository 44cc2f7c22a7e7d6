-- The PAT, the CAT and the PMT as the standard lays them out.
-- ISO/IEC 13818-1, 2.4.4.3 (PAT), 2.4.4.6 (CAT), 2.4.4.8 (PMT): at most 1021 bytes after section_length.
use Rattle.std.specs.Prelude.{List, [], ◌∷◌, codes, true, false, Some, None}
use Rattle.ts_fields.specs.declared.field.Kind.TheVariants.{Number}
use Rattle.ts_fields.specs.Layout.{Row}
use Rattle.ts_table_rows.specs.declared.layout.LoopForm.TheVariants.{Absent, Counted, ToEnd}
use Rattle.ts_table_rows.specs.RowWords.{field, field_or, reserved}
use Rattle.ts_table_rows.specs.TablePages.{ItemPage, TablePage}

-- the program_number of an entry; that of a service is at least 1
abbrev pub entry_number_row : Row
entry_number_row = record { name = codes "service_id"; kind = Number 16; absent = None; range = Some (1, 65535) }

-- an entry of a PAT: program_number 16, reserved 3, program_map_PID or network_PID 13
abbrev pub entry_page : ItemPage
entry_page = record {
  name = codes "service";
  rows = entry_number_row ∷ reserved 3 ∷ field (codes "program_map_PID") (Number 13) ∷ [];
  described = false;
  counted = false;
}

-- a component of a PMT: stream_type 8, reserved 3, elementary_PID 13, reserved 4, ES_info_length 12, descriptors
abbrev pub component_page : ItemPage
component_page = record {
  name = codes "component";
  rows = field (codes "stream_type") (Number 8) ∷ reserved 3 ∷ field (codes "elementary_PID") (Number 13) ∷ reserved 4 ∷ [];
  described = true;
  counted = false;
}

-- entries
abbrev pub pat_page : TablePage
pat_page = record {
  name = codes "PAT";
  ids = (0x00, 0x00) ∷ [];
  extension = codes "transport_stream_id";
  private_bit = false;
  most = 1021;
  single = false;
  keeps_numbers = false;
  common = [];
  head = [];
  loop_form = Absent;
  items = Some entry_page;
  one_zero = true;
}

-- descriptors
abbrev pub cat_page : TablePage
cat_page = record {
  name = codes "CAT";
  ids = (0x01, 0x01) ∷ [];
  extension = [];
  private_bit = false;
  most = 1021;
  single = false;
  keeps_numbers = false;
  common = [];
  head = [];
  loop_form = ToEnd;
  items = None;
  one_zero = false;
}

-- the fields of a PMT outside the components: reserved 3, PCR_PID 13, reserved 4
abbrev pub pmt_head_rows : List Row
pmt_head_rows = reserved 3 ∷ field_or (codes "PCR_PID") (Number 13) 8191 ∷ reserved 4 ∷ []

-- these fields, then program_info_length 12, descriptors, components
abbrev pub pmt_page : TablePage
pmt_page = record {
  name = codes "PMT";
  ids = (0x02, 0x02) ∷ [];
  extension = codes "service_id";
  private_bit = false;
  most = 1021;
  single = true;
  keeps_numbers = false;
  common = [];
  head = pmt_head_rows;
  loop_form = Counted;
  items = Some component_page;
  one_zero = false;
}

-- The attributes of a table's element, read one after another.
-- This project's own rule: each attribute is checked in its place, and so is the order of the section numbers.
use Rattle.std.specs.Prelude.{ℕ, ◌^◌, ◌&&◌, List, [], ◌∷◌, ◌++◌, map, codes, Bool, true, false, nat_eq, nat_le, nat_lt, is_some, if◌then◌else◌, Option, Some, None, Ok}
use Rattle.serde_json.specs.Data.{Data, Members}
use Rattle.serde_json.specs.Find.{get_member}
use Rattle.ts_fields.specs.declared.field.Kind.{Kind}
use Rattle.ts_fields.specs.declared.field.Kind.TheVariants.{Number, Flag, Hex}
use Rattle.ts_fields.specs.Layout.{Row, Held, number, bytes, held}
use Rattle.ts_fields.specs.SoundRows.{is_sound}
use Rattle.ts_jtree.specs.declared.fault.JsonKind.TheVariants.{OutOfRange}
use Rattle.ts_jtree.specs.Attributes.{read_attributes}
use Rattle.ts_jtree.specs.Faults.{Reading, refuse, ◌>>=◌}
use Rattle.ts_jtree.specs.Numbers.{number_of}
use Rattle.ts_table_rows.specs.declared.table.TableHead.{TableHead}
use Rattle.ts_table_rows.specs.TablePages.{TablePage}
use Rattle.ts_json_tables.specs.declared.heading.Heading as code
use Rattle.ts_json_tables.specs.ElementRows.{actual_row, current_row, extension_row, is_eit_id, last_section_number_row, network_key, network_row, section_number_row, table_id_row, version_row}

-- the number of a single row; 0 where there is none
abbrev pub only_number : List Held → ℕ
only_number (number n ∷ []) = n
only_number _ = 0

-- the bytes of a single row; empty where there are none
abbrev pub only_bytes : List Held → List ℕ
only_bytes (bytes b ∷ []) = b
only_bytes _ = []

-- the bound of the numbers of a field of this kind
abbrev pub number_bound : Kind → ℕ
number_bound (Number count) = 2 ^ count
number_bound Flag = 2
number_bound _ = 0

-- the default, where there is one, is below the bound
abbrev pub default_below : Option ℕ → ℕ → Bool
default_below None bound = true
default_below (Some n) bound = nat_lt n bound

-- a row that is a number, with a default that it can hold
abbrev pub is_number_row : Row → Bool
is_number_row r = is_sound r.kind && (nat_lt 0 (number_bound r.kind) && default_below r.absent (number_bound r.kind))

-- the kind is `Hex`
abbrev pub is_hex : Kind → Bool
is_hex Hex = true
is_hex _ = false

-- there is a range, and it ends at this number
abbrev pub has_most : ℕ → Option (ℕ × ℕ) → Bool
has_most most None = false
has_most most (Some range) = nat_eq range.1 most

-- a row that is bytes, at most this many
abbrev pub is_hex_row : ℕ → Row → Bool
is_hex_row most r = is_hex r.kind && has_most most r.range

-- the attribute of one row that is a number
unfoldable pub read_number : Row → Members → Reading ℕ
read_number r ms = do
  values ← read_attributes (r ∷ []) ms
  Ok (only_number values)

-- the attribute of one row that is bytes
unfoldable pub read_bytes : Row → Members → Reading (List ℕ)
read_bytes r ms = do
  values ← read_attributes (r ∷ []) ms
  Ok (only_bytes values)

-- the attribute of one row that is a Boolean
unfoldable pub read_truth : Row → Members → Reading Bool
read_truth r ms = do
  bit ← read_number r ms
  Ok (nat_eq bit 1)

-- the table_id, of those that the table may have
unfoldable pub read_id : List (ℕ × ℕ) → Members → Reading ℕ
read_id [] ms = Ok 0
read_id (x ∷ []) ms = if nat_eq x.0 x.1 then Ok x.0 else read_number (table_id_row x) ms
read_id (x ∷ y ∷ more) ms = do
  actual ← read_truth actual_row ms
  Ok (if actual then x.0 else y.0)

-- table_id_extension; all ones where it is reserved
unfoldable pub read_extension : List ℕ → Members → Reading ℕ
read_extension [] ms = Ok 0xFFFF
read_extension (c ∷ cs) ms = read_number (extension_row (c ∷ cs)) ms

-- the first number is not above the last
abbrev pub numbers_in_order : ℕ → ℕ → Reading (ℕ × ℕ)
numbers_in_order first last =
    if nat_le first last then Ok (first, last) else refuse (codes "last_section_number") OutOfRange

-- section_number and last_section_number
unfoldable pub read_numbers : Members → Reading (Option (ℕ × ℕ))
read_numbers ms = do
  first ← read_number section_number_row ms
  last ← read_number last_section_number_row ms
  numbers ← numbers_in_order first last
  Ok (Some numbers)

-- section_number and last_section_number, where the table keeps them
unfoldable pub read_kept : Bool → Members → Reading (Option (ℕ × ℕ))
read_kept false ms = Ok None
read_kept true ms = read_numbers ms

-- whether the PID of an entry with number 0 is there, in a table that may have such an entry
abbrev pub names_network : Bool → Members → Bool
names_network one_zero ms = one_zero && is_some (get_member network_key ms)

-- the PID of the entry with number 0
unfoldable pub read_pid : Members → Reading (Option ℕ)
read_pid ms = do
  pid ← read_number network_row ms
  Ok (Some pid)

-- the PID of the entry with number 0, where there is one
unfoldable pub read_network : Bool → Members → Reading (Option ℕ)
read_network false ms = Ok None
read_network true ms = read_pid ms

-- the attributes of a table: the fields of the section heads that it keeps, the fields outside all items, and the
-- PID of the entry with number 0
pub record Heading : Type 0 where
  pub head : TableHead
  pub values : List Held
  pub network : Option ℕ

-- what a value of the code holds
abbrev pub heading_held : code.Heading → Heading
heading_held h = record { head = h.head; values = map held h.values.items; network = h.network }

-- the attributes of a table of a page, in the order in which they are checked
unfoldable pub read_heading : TablePage → Members → Reading Heading
read_heading p ms = do
  version ← read_number version_row ms
  current ← read_truth current_row ms
  id ← read_id p.ids ms
  extension ← read_extension p.extension ms
  common ← read_attributes p.common ms
  numbers ← read_kept p.keeps_numbers ms
  others ← read_attributes p.head ms
  network ← read_network (names_network p.one_zero ms) ms
  Ok (record {
    head = record { table_id = id; extension = extension; version = version; current = current; numbers = numbers };
    values = common ++ others;
    network = network;
  })

-- whether a given table_id is one of an EIT
abbrev pub is_eit_number : Option ℕ → Bool
is_eit_number None = false
is_eit_number (Some id) = is_eit_id id

-- whether a value is the table_id of an EIT
abbrev pub is_eit_value : Option Data → Bool
is_eit_value None = false
is_eit_value (Some value) = is_eit_number (number_of value)

-- whether the attribute table_id is that of an EIT
abbrev pub names_eit : Members → Bool
names_eit ms = is_eit_value (get_member (codes "table_id") ms)

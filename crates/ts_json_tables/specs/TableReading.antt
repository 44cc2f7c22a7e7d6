-- Tables from JSON elements.
-- This project's own rule: an element is checked step by step, and then its children in their order, descriptors and
-- items as they come; the fault of a child has the child's number, from 0, in its path.
use Rattle.std.specs.Prelude.{ℕ, ◌+◌, ◌&&◌, List, [], ◌∷◌, ◌++◌, Bool, true, false, bytes_eq, length, nat_eq, nat_le, nat_lt, if◌then◌else◌, Option, Some, None, Ok}
use Rattle.serde_json.specs.Data.{Data, Items, no_items, item, Members}
use Rattle.ts_bits.specs.TaggedBody.{TaggedBody}
use Rattle.ts_jtree.specs.declared.fault.JsonKind.TheVariants.{UnknownKey, OutOfRange}
use Rattle.ts_jtree.specs.Attributes.{read_attributes}
use Rattle.ts_jtree.specs.Elements.{name_key, nodes_key, members_of, name_of, named, keys_known, nodes_of, no_children}
use Rattle.ts_jtree.specs.Faults.{Reading, refuse, or_refuse, at_child, ◌>>=◌}
use Rattle.ts_fields.specs.Bodies.{Page, spell_page}
use Rattle.ts_json_descr.specs.DescrReading.{descr_read, read_holding}
use Rattle.ts_table_rows.specs.declared.layout.LoopForm.{LoopForm}
use Rattle.ts_table_rows.specs.declared.layout.LoopForm.TheVariants.{Absent, Counted, ToEnd}
use Rattle.ts_table_rows.specs.TablePages.{ItemPage, TablePage}
use Rattle.ts_table_rows.specs.TableValues.{ItemHolding, TableHolding, item_held}
use Rattle.ts_table_rows.specs.TableSections.{Thing, own_thing, item_thing, owns_in, items_in}
use Rattle.ts_table_rows.specs.BodySpelling.{bytes_of}
use Rattle.ts_table_pages.specs.PatEntries.{network_items}
use Rattle.ts_json_tables.specs.declared.children.Child.{Child}
use Rattle.ts_json_tables.specs.declared.children.Child.TheVariants as sorts
use Rattle.ts_json_tables.specs.ElementRows.{current_row, element_rows, extension_row, long_name, long_rows, payload_row, private_row, section_name, section_rows, short_name, short_rows, table_id_row, version_row}
use Rattle.ts_json_tables.specs.HeadReading.{Heading, names_eit, names_network, read_bytes, read_heading, read_kept, read_number, read_truth}
use Rattle.ts_json_tables.specs.HeldTables.{LongHolding, TableValue, laid, short, long}
use Rattle.ts_json_tables.specs.KnownPages.{page_named}
use Rattle.ts_json_tables.specs.ShortPages.{short_page_named}
use Rattle.ts_json_tables.specs.TableElements.{tot_name}
use Rattle.ts_json_tables.specs.TimeOffsets.{OffsetHolding, offset_payload, tot_id, tot_rows}
use Rattle.std.specs.Prelude.{codes}

-- children one after another, the first of which has this number
unfoldable pub read_each : {A : Type 0} → (Data → Reading A) → ℕ → Items → Reading (List A)
read_each read place no_items = Ok []
read_each read place (item value more) = do
  x ← at_child place (read value)
  others ← read_each read (place + 1) more
  Ok (x ∷ others)

-- a descriptor, whose body is given by its bits
unfoldable pub read_descr : Data → Reading TaggedBody
read_descr value = do
  d ← descr_read value
  Ok (record { tag = d.0; body = bytes_of d.1 })

-- the children of an item, which are descriptors where the layout has them
unfoldable pub read_described : Bool → Items → Reading (List TaggedBody)
read_described false nodes = do
  _ ← no_children nodes
  Ok []
read_described true nodes = read_each read_descr 0 nodes

-- an item, whose name was checked before
unfoldable pub read_item : ItemPage → Members → Reading ItemHolding
read_item i ms = do
  _ ← keys_known i.rows ms ms
  values ← read_attributes i.rows ms
  nodes ← nodes_of ms
  ds ← read_described i.described nodes
  Ok (record { values = values; descriptors = ds })

-- the value of a child in the code
abbrev pub child_thing : Child → Thing
child_thing (sorts.Own d) = own_thing d
child_thing (sorts.Item x) = item_thing (item_held x)

-- children by their kind
abbrev pub parted : Reading (List Thing) → Reading (List TaggedBody × List ItemHolding)
parted read = read >>= λ things. Ok (owns_in things, items_in things)

-- whether a table may have descriptors of its own
abbrev pub has_own : LoopForm → Bool
has_own Absent = false
has_own Counted = true
has_own ToEnd = true

-- a descriptor of the table's own, where the layout has them
unfoldable pub read_own : Bool → Data → Reading Thing
read_own false value = refuse name_key UnknownKey
read_own true value = do
  d ← read_descr value
  Ok (own_thing d)

-- a child with this name: an item, or else a descriptor
unfoldable pub read_named : Option ItemPage → Bool → List ℕ → Members → Data → Reading Thing
read_named None own name ms value = read_own own value
read_named (Some i) own name ms value =
    if bytes_eq name i.name then (do
      x ← read_item i ms
      Ok (item_thing x))
    else read_own own value

-- a child of a table
unfoldable pub read_child : TablePage → Data → Reading Thing
read_child p value = do
  ms ← members_of value
  name ← name_of ms
  read_named p.items (has_own p.loop_form) name ms value

-- a table of these attributes and these children; the entry with number 0 comes first
abbrev pub holding_of : Heading → List TaggedBody × List ItemHolding → TableHolding
holding_of h children = record {
  head = h.head;
  body = record {
    values = h.values;
    descriptors = children.0;
    items = network_items h.network ++ children.1;
  };
}

-- a table of a page, whose name was checked before
unfoldable pub read_laid : TablePage → Members → Reading TableValue
read_laid p ms = do
  _ ← keys_known (element_rows p (names_network p.one_zero ms)) ms ms
  h ← read_heading p ms
  nodes ← nodes_of ms
  children ← parted (read_each (read_child p) 0 nodes)
  Ok (laid p (holding_of h children))

-- a section of the short form
unfoldable pub read_short : Members → Reading TableValue
read_short ms = do
  _ ← keys_known short_rows ms ms
  id ← read_number (table_id_row (0, 254)) ms
  own ← read_truth private_row ms
  payload ← read_bytes (payload_row 4093) ms
  nodes ← nodes_of ms
  _ ← no_children nodes
  Ok (short (record { table_id = id; own = own; payload = payload }))

-- the body of a section of the long form
unfoldable pub read_section : Data → Reading (List ℕ)
read_section value = do
  ms ← members_of value
  name ← name_of ms
  _ ← named section_name name
  _ ← keys_known section_rows ms ms
  payload ← read_bytes (payload_row 4084) ms
  nodes ← nodes_of ms
  _ ← no_children nodes
  Ok payload

-- the number of children
abbrev pub count_of : Items → ℕ
count_of no_items = 0
count_of (item value more) = count_of more + 1

-- whether a table may have this number of sections: 1 to 256, an EIT one
abbrev pub is_valid_count : Bool → ℕ → Bool
is_valid_count eit n = if eit then nat_eq n 1 else nat_le 1 n && nat_le n 256

-- the children, where a table may have their number of sections
abbrev pub sections_counted : Bool → Items → Reading Items
sections_counted eit nodes =
    if is_valid_count eit (count_of nodes) then Ok nodes else refuse nodes_key OutOfRange

-- the section numbers of a table; 0 and 0 where it keeps none
abbrev pub kept_or_none : Option (ℕ × ℕ) → ℕ × ℕ
kept_or_none None = (0, 0)
kept_or_none (Some n) = n

-- the attributes of sections of the long form
unfoldable pub read_long_head : Bool → Members → Reading LongHolding
read_long_head eit ms = do
  version ← read_number version_row ms
  current ← read_truth current_row ms
  id ← read_number (table_id_row (0, 254)) ms
  extension ← read_number (extension_row (codes "table_id_extension")) ms
  own ← read_truth private_row ms
  numbers ← read_kept eit ms
  Ok (record {
    version = version;
    current = current;
    table_id = id;
    extension = extension;
    own = own;
    numbers = kept_or_none numbers;
    payloads = [];
  })

-- a table with these attributes and these bodies
abbrev pub with_payloads : LongHolding → List (List ℕ) → LongHolding
with_payloads l rows = record l { payloads = rows }

-- sections of the long form
unfoldable pub read_long : Members → Reading TableValue
read_long ms = do
  _ ← keys_known (long_rows (names_eit ms)) ms ms
  head ← read_long_head (names_eit ms) ms
  nodes ← nodes_of ms
  counted ← sections_counted (names_eit ms) nodes
  payloads ← read_each read_section 0 counted
  Ok (long (with_payloads head payloads))

-- a section of the short form with these bytes after section_length, of which there are at most 4093
abbrev pub sized_short : ℕ → List ℕ → Reading TableValue
sized_short id payload =
    if nat_lt 4093 (length payload) then refuse nodes_key OutOfRange
    else Ok (short (record { table_id = id; own = true; payload = payload }))

-- a table of a page of the short form, whose name was checked before
unfoldable pub read_paged : Page → Members → Reading TableValue
read_paged p ms = do
  h ← read_holding p ms
  sized_short p.tag (bytes_of (spell_page p h))

-- the fields and the descriptors of a TOT, whose name was checked before
unfoldable pub read_tot_element : Members → Reading OffsetHolding
read_tot_element ms = do
  _ ← keys_known tot_rows ms ms
  values ← read_attributes tot_rows ms
  nodes ← nodes_of ms
  ds ← read_each read_descr 0 nodes
  Ok (record { values = values; descriptors = ds })

-- a TOT of its fields and its descriptors
abbrev pub sized_tot : OffsetHolding → Reading TableValue
sized_tot t = sized_short tot_id (offset_payload t)

-- a TOT, whose name was checked before
unfoldable pub read_tot : Members → Reading TableValue
read_tot ms = do
  t ← read_tot_element ms
  sized_tot t

-- a table of the short form with this name
abbrev pub read_short_named : List ℕ → Members → Reading TableValue
read_short_named name ms =
    if bytes_eq name tot_name then read_tot ms
    else (do
      p ← or_refuse (short_page_named name) name_key UnknownKey
      read_paged p ms)

-- a table with this name, which is not one given by its bytes
abbrev pub read_known : Option TablePage → List ℕ → Members → Reading TableValue
read_known None name ms = read_short_named name ms
read_known (Some p) name ms = read_laid p ms

-- a table with this name
abbrev pub read_by_name : List ℕ → Members → Reading TableValue
read_by_name name ms =
    if bytes_eq name short_name then read_short ms
    else if bytes_eq name long_name then read_long ms
    else read_known (page_named name) name ms

-- the table of an element, or the first fault of the element and its children
unfoldable pub table_read : Data → Reading TableValue
table_read value = do
  ms ← members_of value
  name ← name_of ms
  read_by_name name ms

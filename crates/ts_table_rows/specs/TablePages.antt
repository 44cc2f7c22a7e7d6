-- The layout of a table: rows of fields, and the places of descriptors and items among them.
-- ISO/IEC 13818-1, 2.4.4.3 to 2.4.4.9, and ETSI EN 300 468, 5.2: fields, then descriptors, then items that go on
-- to the end of the body or for so many bytes.
use Rattle.std.specs.Prelude.{ℕ, ◌+◌, ◌%◌, ◌&&◌, ◌||◌, List, Bool, true, false, nat_eq, nat_lt, nat_le, not, Option, Some, None, option_map, if◌then◌else◌}
use Rattle.std.specs.List.{list_any}
use Rattle.ts_fields.specs.Layout.{Row, rows_of}
use Rattle.ts_fields.specs.SoundRows.{are_sound, is_open, widths}
use Rattle.ts_table_rows.specs.declared.layout.LoopForm.{LoopForm}
use Rattle.ts_table_rows.specs.declared.layout.LoopForm.TheVariants.{Absent, Counted, ToEnd}
use Rattle.ts_table_rows.specs.declared.layout.ItemForm.{ItemForm}
use Rattle.ts_table_rows.specs.declared.layout.TableLayout.{TableLayout}

-- the items of a table: their name, the rows of one, whether descriptors follow its fields, and whether the number of
-- bytes of all of them comes before the first
pub record ItemPage : Type 0 where
  pub name : List ℕ
  pub rows : List Row
  pub described : Bool
  pub counted : Bool

-- a table: its name, its table_ids as ranges, its name of table_id_extension, which is empty where that is reserved,
-- the private bit and the maximum section_length of its sections, whether it has one section only, whether that keeps
-- its section numbers, the rows whose first number is the same in all sections, the other rows outside the items, its
-- own descriptors, its items, and whether at most one item may be 0
pub record TablePage : Type 0 where
  pub name : List ℕ
  pub ids : List (ℕ × ℕ)
  pub extension : List ℕ
  pub private_bit : Bool
  pub most : ℕ
  pub single : Bool
  pub keeps_numbers : Bool
  pub common : List Row
  pub head : List Row
  pub loop_form : LoopForm
  pub items : Option ItemPage
  pub one_zero : Bool

-- the items of a layout of the code
abbrev pub item_page : ItemForm → ItemPage
item_page i = record { name = i.name.now; rows = rows_of i.rows.now; described = i.described; counted = i.counted }

-- the table of a layout of the code
abbrev pub table_page : TableLayout → TablePage
table_page t = record {
  name = t.name.now;
  ids = t.ids.now;
  extension = t.extension.now;
  private_bit = t.private_bit;
  most = t.most;
  single = t.single;
  keeps_numbers = t.keeps_numbers;
  common = rows_of t.common.now;
  head = rows_of t.head.now;
  loop_form = t.loop_form;
  items = option_map item_page t.items;
  one_zero = t.one_zero;
}

-- a table_id is in one of these ranges
abbrev pub has_id : List (ℕ × ℕ) → ℕ → Bool
has_id ids id = list_any (λ range. nat_le range.0 id && nat_le id range.1) ids

-- the number of bits of the fixed part of an item
abbrev pub fixed_part : ItemPage → ℕ
fixed_part i = widths i.rows + (if i.described then 12 else 0)

-- rows that can be read and written, none of which goes to the end
abbrev pub closed_rows : List Row → Bool
closed_rows rs = are_sound rs && not (is_open rs)

-- items that can be read and written: whole bytes, and more than none
abbrev pub item_sound : ItemPage → Bool
item_sound i = closed_rows i.rows && (nat_lt 0 (fixed_part i) && nat_eq (fixed_part i % 8) 0)

abbrev pub items_sound : Option ItemPage → Bool
items_sound None = true
items_sound (Some i) = item_sound i

-- the number of bits of the fields outside the items
abbrev pub heading_bits : TablePage → ℕ
heading_bits p = widths p.common + widths p.head

-- the number of bits that hold the number of bytes of the descriptors; those before the items, four reserved bits
-- included
abbrev pub own_bits : LoopForm → ℕ
own_bits Absent = 0
own_bits Counted = 12
own_bits ToEnd = 0

abbrev pub items_bits : Option ItemPage → ℕ
items_bits None = 0
items_bits (Some i) = if i.counted then 16 else 0

-- nothing follows descriptors that go to the end
abbrev pub ends_once : LoopForm → Option ItemPage → Bool
ends_once Absent items = true
ends_once Counted items = true
ends_once ToEnd None = true
ends_once ToEnd (Some i) = false

-- a table that can be read and written: sound rows and items, whole bytes, at most 4093 bytes after section_length,
-- and section numbers kept only where there is one section
abbrev pub page_sound : TablePage → Bool
page_sound p =
    closed_rows p.common && (closed_rows p.head && (items_sound p.items && (ends_once p.loop_form p.items
    && (nat_eq ((heading_bits p + (own_bits p.loop_form + items_bits p.items)) % 8) 0 && (nat_le p.most 4093
    && (not p.keeps_numbers || p.single))))))

-- Writing the body of a section.
-- ISO/IEC 13818-1, 2.4.4.3 to 2.4.4.9, and ETSI EN 300 468, 5.2: fields follow one another in their order. That
-- reserved bits are written as ones is this project's own rule.
use Rattle.std.specs.Prelude.{ℕ, ◌+◌, ◌/◌, List, [], ◌∷◌, ◌++◌, length, take, drop, Bool, true, false, Option, Some, None, if◌then◌else◌}
use Rattle.std.specs.List.{flat_map}
use Rattle.ts_bits.specs.TaggedBody.{TaggedBody, loop_bytes}
use Rattle.ts_fields.specs.Bits.{bits, bits_of}
use Rattle.ts_fields.specs.Layout.{Row, Held}
use Rattle.ts_fields.specs.Reading.{read_bytes}
use Rattle.ts_fields.specs.Spelling.{spell_rows, holds}
use Rattle.ts_table_rows.specs.declared.layout.LoopForm.{LoopForm}
use Rattle.ts_table_rows.specs.declared.layout.LoopForm.TheVariants.{Absent, Counted, ToEnd}
use Rattle.ts_table_rows.specs.TablePages.{ItemPage, TablePage}
use Rattle.ts_table_rows.specs.TableValues.{ItemHolding, BodyHolding}

-- a row that was read, or none
abbrev pub read_row : Option (List ℕ × List Bool) → List ℕ
read_row None = []
read_row (Some x) = x.0

-- bits as bytes, eight to a byte
unfoldable pub bytes_of : List Bool → List ℕ
bytes_of bs = read_row (read_bytes (length bs / 8) bs)

-- the number of some bytes in 12 bits, and the bytes
unfoldable pub spell_counted : List ℕ → List Bool
spell_counted row = bits 12 (length row) ++ bits_of row

-- the descriptors of an item, if it has any
abbrev pub spell_described : Bool → List TaggedBody → List Bool
spell_described false ds = []
spell_described true ds = spell_counted (loop_bytes ds)

-- an item
unfoldable pub spell_item : ItemPage → ItemHolding → List Bool
spell_item i x = spell_rows i.rows x.values ++ spell_described i.described x.descriptors

-- an item as bytes
abbrev pub item_row : Option ItemPage → ItemHolding → List ℕ
item_row None x = []
item_row (Some i) x = bytes_of (spell_item i x)

-- the descriptors of the table itself, given as bytes
abbrev pub spell_own : LoopForm → List ℕ → List Bool
spell_own Absent row = []
spell_own Counted row = spell_counted row
spell_own ToEnd row = bits_of row

-- the items, given as bytes
abbrev pub spell_after : Option ItemPage → List ℕ → List Bool
spell_after None row = []
spell_after (Some i) row = if i.counted then bits 4 15 ++ spell_counted row else bits_of row

-- the number of values of some rows
abbrev pub held_count : List Row → ℕ
held_count [] = 0
held_count (r ∷ rs) = holds r.kind + held_count rs

-- the values of the first fields, and of the others
abbrev pub common_values : TablePage → List Held → List Held
common_values p values = take (held_count p.common) values

abbrev pub head_values : TablePage → List Held → List Held
head_values p values = drop (held_count p.common) values

-- a body with these values, these bytes of descriptors and these bytes of items
unfoldable pub spell_parts : TablePage → List Held → List ℕ → List ℕ → List Bool
spell_parts p values own items =
    spell_rows p.common (common_values p values)
    ++ (spell_rows p.head (head_values p values) ++ (spell_own p.loop_form own ++ spell_after p.items items))

-- a body as bytes
abbrev pub body_row : TablePage → BodyHolding → List ℕ
body_row p b = bytes_of (spell_parts p b.values (loop_bytes b.descriptors) (flat_map (item_row p.items) b.items))

-- The values of a table of any layout.
-- This project's own rule: the values of the fields in their order, without reserved bits, descriptors and items.
use Rattle.std.specs.Prelude.{List, [], ◌++◌, map}
use Rattle.ts_bits.specs.TaggedBody.{TaggedBody}
use Rattle.ts_fields.specs.Layout.{Held, held}
use Rattle.ts_table_rows.specs.declared.table.TableHead.{TableHead}
use Rattle.ts_table_rows.specs.declared.table.TableItem.{TableItem}
use Rattle.ts_table_rows.specs.declared.table.TableBody.{TableBody}
use Rattle.ts_table_rows.specs.declared.table.Table.{Table}

-- an item: the values of its fields, and its descriptors
pub record ItemHolding : Type 0 where
  pub values : List Held
  pub descriptors : List TaggedBody

-- bodies: the values of the fields outside the items, the descriptors of the table itself, and the items
pub record BodyHolding : Type 0 where
  pub values : List Held
  pub descriptors : List TaggedBody
  pub items : List ItemHolding

-- a table: what it keeps of the heads of its sections, and the contents of their bodies
pub record TableHolding : Type 0 where
  pub head : TableHead
  pub body : BodyHolding

-- the values of an item of the code
abbrev pub item_held : TableItem → ItemHolding
item_held i = record { values = map held i.values.items; descriptors = i.descriptors }

-- the values of a body of the code
abbrev pub body_held : TableBody → BodyHolding
body_held b = record { values = map held b.values.items; descriptors = b.descriptors; items = map item_held b.items.items }

-- the values of a table of the code
abbrev pub table_held : Table → TableHolding
table_held t = record { head = t.head; body = body_held t.body }

-- no body
abbrev pub no_body : BodyHolding
no_body = record { values = []; descriptors = []; items = [] }

-- the lists of one section and of those after it, joined, with the values of the first
abbrev pub joined : BodyHolding → BodyHolding → BodyHolding
joined first more = record {
  values = first.values;
  descriptors = first.descriptors ++ more.descriptors;
  items = first.items ++ more.items;
}

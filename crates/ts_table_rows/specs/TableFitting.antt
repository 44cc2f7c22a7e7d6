-- The values that a table can hold.
-- This project's own rule: each value is within the width of its field, and nothing stands where the layout has no
-- place.
use Rattle.std.specs.Prelude.{ℕ, ◌&&◌, ◌||◌, List, [], ◌∷◌, Bool, true, false, nat_lt, nat_le, if◌then◌else◌, is_some, Option, Some, None, All}
use Rattle.std.specs.List.{list_all}
use Rattle.ts_bits.specs.TaggedBody.{TaggedBody, IsDescriptor}
use Rattle.ts_fields.specs.Layout.{Held}
use Rattle.ts_fields.specs.Fitting.{fits}
use Rattle.ts_table_rows.specs.declared.layout.LoopForm.{LoopForm}
use Rattle.ts_table_rows.specs.declared.layout.LoopForm.TheVariants.{Absent, Counted, ToEnd}
use Rattle.ts_table_rows.specs.declared.table.TableHead.{TableHead}
use Rattle.ts_table_rows.specs.TablePages.{ItemPage, TablePage, has_id}
use Rattle.ts_table_rows.specs.TableValues.{ItemHolding, BodyHolding, TableHolding}
use Rattle.ts_table_rows.specs.BodyReading.{first_number, is_zero}
use Rattle.ts_table_rows.specs.BodySpelling.{common_values, head_values}

-- the fields outside the items
abbrev pub values_fit : TablePage → List Held → Bool
values_fit p values = fits p.common (common_values p values) && fits p.head (head_values p values)

-- no descriptors
abbrev pub none_there : List TaggedBody → Bool
none_there [] = true
none_there (d ∷ ds) = false

-- the descriptors of the table itself, where it has a place for them
abbrev pub own_fit : LoopForm → List TaggedBody → Bool
own_fit Absent ds = none_there ds
own_fit Counted ds = true
own_fit ToEnd ds = true

abbrev pub item_fits : ItemPage → ItemHolding → Bool
item_fits i x = fits i.rows x.values && (i.described || none_there x.descriptors)

abbrev pub items_fit : Option ItemPage → List ItemHolding → Bool
items_fit None [] = true
items_fit None (x ∷ xs) = false
items_fit (Some i) items = list_all (item_fits i) items

-- whether there was an item with 0, after some more items; none where a second one may not be
unfoldable pub zeros_from : Bool → Bool → List ItemHolding → Option Bool
zeros_from one_zero seen [] = Some seen
zeros_from one_zero seen (x ∷ xs) =
    if one_zero && is_zero (first_number x.values) then (if seen then None else zeros_from one_zero true xs)
    else zeros_from one_zero seen xs

-- the section numbers of the table, where it keeps them
abbrev pub numbers_fit : Bool → Option (ℕ × ℕ) → Bool
numbers_fit false None = true
numbers_fit false (Some n) = false
numbers_fit true None = false
numbers_fit true (Some n) = nat_le n.0 n.1 && nat_lt n.1 256

abbrev pub head_fits : TablePage → TableHead → Bool
head_fits p h =
    has_id p.ids h.table_id && (nat_lt h.table_id 255 && (nat_lt h.extension 65536 && (nat_lt h.version 32
    && numbers_fit p.keeps_numbers h.numbers)))

abbrev pub body_fits : TablePage → BodyHolding → Bool
body_fits p b =
    values_fit p b.values && (own_fit p.loop_form b.descriptors && (items_fit p.items b.items
    && is_some (zeros_from p.one_zero false b.items)))

-- the values that a table of this layout can hold, where its descriptors are valid
abbrev pub table_fits : TablePage → TableHolding → Bool
table_fits p h = head_fits p h.head && body_fits p h.body

-- its descriptors are valid
pub record DescriptorsFit (b : BodyHolding) : Type 0 where
  pub own : All (λ d. IsDescriptor d) b.descriptors
  pub items : All (λ x. All (λ d. IsDescriptor d) x.descriptors) b.items

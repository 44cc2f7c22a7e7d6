-- Tables of rows.
use Rattle.std.proofs.Common.{ℕ, List, [], ◌∷◌, map, None, true}
use Rattle.ts_bits.specs.TaggedBody.{TaggedBody}
use Rattle.ts_fields.specs.Layout.{number}
use Rattle.ts_table_rows.specs.TableValues.{ItemHolding, TableHolding}

-- a table of these values, descriptors and items
abbrev pub table_of : ℕ → ℕ → List ℕ → List TaggedBody → List ItemHolding → TableHolding
table_of id extension values descriptors items = record {
  head = record { table_id = id; extension = extension; version = 0; current = true; numbers = None };
  body = record { values = map number values; descriptors = descriptors; items = items };
}

abbrev pub item_of : ℕ → ℕ → List TaggedBody → ItemHolding
item_of first second descriptors = record { values = number first ∷ number second ∷ []; descriptors = descriptors }

-- The root of tables is not deep.
use Rattle.std.proofs.Common.{◌≡◌, ◌≤◌, false, List, [], ◌∷◌, map, arith}
use Rattle.serde_json.specs.Data.{depth, items_depth}
use Rattle.serde_json.specs.Read.{max_depth}
use Rattle.serde_json.specs.View.{items_of}
use Rattle.serde_json.specs.Written.{has_float}
use Rattle.ts_jtree.specs.Shown.{put_attributes}
use Rattle.ts_json_tables.specs.HeldTables.{TableValue}
use Rattle.ts_json_tables.specs.TableElements.{table_shown}
use Rattle.tabcomp_core.specs.Decompiling.{root_shown}

-- what the layer below ensures of the element of a table
pub record TablesPlain : Type 0 where
  pub whole : (t : TableValue) → has_float (table_shown t) ≡ false
  pub shallow : (t : TableValue) → depth (table_shown t) ≤ 9

items_shallow : TablesPlain → (ts : List TableValue) → items_depth (items_of (map table_shown ts)) ≤ 9
items_shallow law [] = omega arith
items_shallow law (t ∷ ts) = omega (arith, law.shallow t, items_shallow law ts)

pub root_shallow : TablesPlain → (ts : List TableValue) → depth (root_shown ts) ≤ max_depth
unfolding put_attributes
root_shallow law ts = omega (arith, items_shallow law ts)

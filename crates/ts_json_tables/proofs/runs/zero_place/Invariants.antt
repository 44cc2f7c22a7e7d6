use Rattle.std.proofs.Common.{◌≡◌, ◌+◌, drop, map}
use Rattle.std.specs.Prelude.{option_map}
use Rattle.ts_table_rows.specs.TableValues.{item_held}
use Rattle.ts_json_tables.specs.RunTables.{zero_place}
use Rattle.ts_json_tables.proofs.runs.zero_place.Given as goal

abbrev pub invariant-loop-item : goal.invariant-loop-item
invariant-loop-item l = record {
  same : l.place ≡ l.item-index;
  left : option_map (λ n. n + l.item-index) (zero_place (map item_held (drop l.item-index l.items))) ≡ zero_place (map item_held l.items);
}

use Rattle.std.proofs.Common.{◌≡◌, take, drop, map, true}
use Rattle.std.specs.List.{list_all}
use Rattle.serde_json.specs.View.{view}
use Rattle.ts_table_rows.specs.TableFitting.{item_fits}
use Rattle.ts_table_rows.specs.TablePages.{item_page}
use Rattle.ts_table_rows.specs.TableValues.{item_held}
use Rattle.ts_json_tables.specs.TableElements.{item_shown}
use Rattle.ts_json_tables.proofs.items.items_json.Given as goal

abbrev pub invariant-loop-item : goal.invariant-loop-item
invariant-loop-item l = record {
  fit : list_all (item_fits (item_page l.form)) (map item_held (drop l.item-index l.items)) ≡ true;
  shown : map view l.nodes.items ≡ map (item_shown (item_page l.form)) (map item_held (take l.item-index l.items));
}

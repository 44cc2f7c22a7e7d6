use Rattle.std.proofs.Common.{◌≡◌, take, drop, map, true}
use Rattle.serde_json.specs.View.{view}
use Rattle.ts_fields.specs.Bodies.{item_held, item_page, all_fit}
use Rattle.ts_fields.specs.Layout.{rows_of}
use Rattle.ts_json_descr.specs.DescrElements.{item_shown}
use Rattle.ts_json_descr.proofs.showing.items_json.Given as goal

abbrev pub invariant-loop-item : goal.invariant-loop-item
invariant-loop-item l = record {
  fit : all_fit (rows_of l.layout.rows.now) (map item_held (drop l.item-index l.items)) ≡ true;
  shown : map view l.nodes.items ≡ map (item_shown (item_page l.layout)) (map item_held (take l.item-index l.items));
}

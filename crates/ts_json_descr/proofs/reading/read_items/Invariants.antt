use Rattle.std.proofs.Common.{◌≡◌, drop, map}
use Rattle.serde_json.specs.View.{items_view}
use Rattle.ts_fields.specs.Bodies.{item_held, item_page}
use Rattle.ts_json_descr.specs.DescrReading as reads
use Rattle.ts_json_descr.proofs.ItemLemmas.{with_items}
use Rattle.ts_json_descr.proofs.reading.read_items.Given as goal

abbrev pub invariant-loop-value : goal.invariant-loop-value
invariant-loop-value l = record {
  same : l.place ≡ l.value-index;
  read : with_items (map item_held l.items.items) (reads.read_items (item_page l.layout) l.value-index (items_view (drop l.value-index l.nodes))) ≡ reads.read_items (item_page l.layout) 0 (items_view l.nodes);
}

use Rattle.std.proofs.Common.{◌≡◌, drop, map}
use Rattle.serde_json.specs.View.{items_view}
use Rattle.ts_table_rows.specs.TablePages.{table_page}
use Rattle.ts_table_rows.specs.TableValues.{item_held}
use Rattle.ts_json_tables.specs.TableReading.{parted, read_child, read_each}
use Rattle.ts_json_tables.proofs.EachLemmas.{made_of}
use Rattle.ts_json_tables.proofs.ChildLemmas.{behind}
use Rattle.ts_json_tables.proofs.children.read_children.Given as goal

abbrev pub invariant-loop-value : goal.invariant-loop-value
invariant-loop-value l = record {
  same : l.place ≡ l.value-index;
  read : made_of (read_each (read_child (table_page l.layout)) l.value-index (items_view (drop l.value-index l.nodes))) (behind l.children.descriptors.items (map item_held l.children.items.items)) ≡ parted (read_each (read_child (table_page l.layout)) 0 (items_view l.nodes));
}

use Rattle.std.proofs.Common.{◌≡◌, drop, map}
use Rattle.serde_json.specs.View.{items_view}
use Rattle.ts_item_forms.specs.ItemForms as forms
use Rattle.ts_item_forms.specs.ItemForms.{item_held}
use Rattle.ts_json_descr.specs.DescrReading as reads
use Rattle.ts_json_descr.proofs.FormedLemmas.{with_items}
use Rattle.ts_json_descr.proofs.formed_reading.read_formed_items.Given as goal

abbrev pub invariant-loop-value : goal.invariant-loop-value
invariant-loop-value l = record {
  same : l.place ≡ l.value-index;
  read : with_items (map (item_held (forms.form l.form)) l.items.items) (reads.read_formed_items (forms.form l.form) l.value-index (items_view (drop l.value-index l.nodes))) ≡ reads.read_formed_items (forms.form l.form) 0 (items_view l.nodes);
}

use Rattle.std.proofs.Common.{◌≡◌, take, drop, map, true}
use Rattle.std.specs.List.{list_all}
use Rattle.serde_json.specs.View.{view}
use Rattle.ts_item_forms.specs.ItemForms as forms
use Rattle.ts_item_forms.specs.ItemForms.{item_fits, item_held}
use Rattle.ts_json_descr.specs.DescrElements.{body_shown}
use Rattle.ts_json_descr.proofs.formed_showing.formed_items_json.Given as goal

abbrev pub invariant-loop-item : goal.invariant-loop-item
invariant-loop-item l = record {
  fit : list_all item_fits (map (item_held (forms.form l.form)) (drop l.item-index l.items)) ≡ true;
  shown : map view l.nodes.items ≡ map (λ x. body_shown x.0 x.1) (map (item_held (forms.form l.form)) (take l.item-index l.items));
}

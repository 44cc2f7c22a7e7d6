use Rattle.std.proofs.Common.{◌≡◌, map, take, true}
use Rattle.std.specs.List.{list_all}
use Rattle.ts_table_rows.specs.TableValues.{item_held}
use Rattle.ts_table_rows.proofs.item_list.ItemList.write.Given as goal

abbrev pub invariant-loop-item : goal.invariant-loop-item
invariant-loop-item g l = record {
  written : map item_held l.items.items ≡ map g.T.Item.as_item (take l.item-index l.held);
  fit : list_all g.T.Item.fits (map g.T.Item.as_item (take l.item-index l.held)) ≡ true;
}

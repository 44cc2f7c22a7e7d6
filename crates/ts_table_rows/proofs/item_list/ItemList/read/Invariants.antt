use Rattle.std.proofs.Common.{◌≡◌, ◌++◌, map, true}
use Rattle.std.specs.List.{list_all}
use Rattle.std.specs.Vec.Iter.{into_iter_items}
use Rattle.ts_table_rows.specs.TableValues.{item_held}
use Rattle.ts_table_rows.proofs.item_list.ItemList.read.Given as goal

abbrev pub invariant-loop-item : goal.invariant-loop-item
invariant-loop-item g l = record {
  can : (goal.iterator-loop-item g).can_next l.item-iterator;
  ends : (goal.iterator-loop-item g).is_finite l.item-iterator;
  read : map g.T.Item.as_item l.read.items ++ map item_held (into_iter_items l.item-iterator) ≡ map item_held l.fn.items.items;
  fit : list_all g.T.Item.fits (map item_held (into_iter_items l.item-iterator)) ≡ true;
}

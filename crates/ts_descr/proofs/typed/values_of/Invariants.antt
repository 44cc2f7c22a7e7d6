use Rattle.std.proofs.Common.{◌≡◌, true, take, drop, map}
use Rattle.std.specs.List.{list_all}
use Rattle.ts_fields.specs.Bodies.{item_held}
use Rattle.ts_fields.specs.Fitting.{fits}
use Rattle.ts_descr.proofs.typed.values_of.Given as goal

abbrev pub invariant-loop-item : goal.invariant-loop-item
invariant-loop-item g l = record {
  fit : list_all (fits g.T.Fields.rows) (map item_held (drop l.item-index l.items)) ≡ true;
  same : map g.T.Fields.fields l.values.items ≡ map item_held (take l.item-index l.items);
}

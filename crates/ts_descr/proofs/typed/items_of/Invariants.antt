use Rattle.std.proofs.Common.{◌≡◌, true, take, map}
use Rattle.std.specs.List.{list_all}
use Rattle.ts_fields.specs.Bodies.{item_held}
use Rattle.ts_fields.specs.Fitting.{fits_uncounted}
use Rattle.ts_descr.proofs.typed.items_of.Given as goal

abbrev pub invariant-loop-value : goal.invariant-loop-value
invariant-loop-value g l = record {
  same : map item_held l.items.items ≡ map g.T.Fields.fields (take l.value-index l.values);
  fit : list_all (fits_uncounted g.T.Fields.rows) (map item_held l.items.items) ≡ true;
}

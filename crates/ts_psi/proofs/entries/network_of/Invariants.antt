use Rattle.std.proofs.Common.{◌≡◌, map, drop}
use Rattle.std.specs.Prelude.{find}
use Rattle.ts_table_rows.specs.TableValues.{item_held}
use Rattle.ts_psi.specs.PatTables.{is_network}
use Rattle.ts_psi.proofs.entries.network_of.Given as goal

abbrev pub invariant-loop-item : goal.invariant-loop-item
invariant-loop-item l = find is_network (map item_held (drop l.item-index l.items)) ≡ find is_network (map item_held l.items)

use Rattle.std.proofs.Common.{◌≡◌, false, drop}
use Rattle.std.specs.Prelude.{option_map}
use Rattle.ts_psi.specs.CatTables.{cat_held}
use Rattle.plug_psi.specs.CatInForce.{current_cat}
use Rattle.plug_psi.specs.LastFound.{found_after}
use Rattle.plug_psi.proofs.kept_cat.keep_cats.Given as goal

-- with the tables that are left it becomes what all of them make of it
abbrev pub invariant-loop-table : goal.invariant-loop-table
invariant-loop-table l = record {
  kept : found_after current_cat (option_map cat_held l.cat) (drop l.table-index l.tables) ≡ found_after current_cat (option_map cat_held l.fn.cat) l.tables;
  same : l.came ≡ false → l.cat ≡ l.fn.cat;
}

use Rattle.std.proofs.Common.{◌≡◌, drop}
use Rattle.std.specs.Prelude.{fold, option_map}
use Rattle.ts_psi.specs.CatTables.{cat_held}
use Rattle.plug_psi.specs.LastFound.{newer}
use Rattle.plug_psi.specs.CatInForce.{current_cat}
use Rattle.plug_info_state.proofs.cat_in_force.keep_cats.Given as goal

-- the remaining tables make the same of the current CAT as all tables make of the first one
abbrev pub invariant-loop-table : goal.invariant-loop-table
invariant-loop-table l =
    fold (λ old table. newer old (current_cat table)) (option_map cat_held l.cat) (drop l.table-index l.tables)
    ≡ fold (λ old table. newer old (current_cat table)) (option_map cat_held l.fn.cat) l.tables

use Rattle.std.proofs.Common.{◌≡◌, false, drop}
use Rattle.std.specs.Prelude.{option_map}
use Rattle.ts_psi.specs.PatTables.{pat_held}
use Rattle.plug_psi.specs.InForce.{current_pat}
use Rattle.plug_psi.specs.LastFound.{found_after}
use Rattle.plug_psi.proofs.kept_pat.keep_pats.Given as goal

-- with the tables that are left it becomes what all of them make of it
abbrev pub invariant-loop-table : goal.invariant-loop-table
invariant-loop-table l = record {
  kept : found_after current_pat (option_map pat_held l.pat) (drop l.table-index l.tables) ≡ found_after current_pat (option_map pat_held l.fn.pat) l.tables;
  same : l.came ≡ false → l.pat ≡ l.fn.pat;
}

use Rattle.std.proofs.Common.{◌≡◌, ℕ, false, drop}
use Rattle.std.specs.Prelude.{nat_eq, option_map}
use Rattle.indexmap.specs.IndexMap.{get}
use Rattle.ts_psi.specs.PsiTables.{pmt_held}
use Rattle.plug_psi.specs.InForce.{current_pmt}
use Rattle.plug_psi.specs.LastFound.{found_after}
use Rattle.plug_psi.proofs.kept_pmts.keep_pmts.Given as goal

-- with the tables that are left they become what all of them make of them
abbrev pub invariant-loop-table : goal.invariant-loop-table
invariant-loop-table l = record {
  kept : (service : ℕ) → found_after (current_pmt service) (option_map pmt_held (get nat_eq l.pmts service)) (drop l.table-index l.tables)
      ≡ found_after (current_pmt service) (option_map pmt_held (get nat_eq l.fn.pmts service)) l.tables;
  same : l.came ≡ false → l.pmts.entries ≡ l.fn.pmts.entries;
}

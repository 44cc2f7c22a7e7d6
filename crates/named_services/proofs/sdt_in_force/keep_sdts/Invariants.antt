use Rattle.std.proofs.Common.{◌≡◌, ℕ, drop}
use Rattle.plug_psi.specs.LastFound.{found_after}
use Rattle.named_services.specs.SdtInForce.{current_sdt, current_sdt_of}
use Rattle.named_services.specs.SdtStands.{kept_with, last_kept}
use Rattle.named_services.proofs.sdt_in_force.keep_sdts.Given as goal

-- with the tables that are left they become what all of them make of them
abbrev pub invariant-loop-table : goal.invariant-loop-table
invariant-loop-table l = record {
  each : (id : ℕ) → found_after (current_sdt_of id) (kept_with l.kept id) (drop l.table-index l.tables)
      ≡ found_after (current_sdt_of id) (kept_with l.fn.kept id) l.tables;
  last : found_after current_sdt (last_kept l.kept) (drop l.table-index l.tables)
      ≡ found_after current_sdt (last_kept l.fn.kept) l.tables;
}

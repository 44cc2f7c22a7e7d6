use Rattle.std.proofs.Common.{◌≡◌, drop}
use Rattle.std.specs.Prelude.{option_map}
use Rattle.ts_si.specs.SiTables.{sdt_held}
use Rattle.plug_psi.specs.LastFound.{found_after}
use Rattle.monitor_services.specs.CurrentSdt.{current_sdt}
use Rattle.monitor_services.proofs.current_sdt.keep_sdts.Given as goal

-- with the tables that are left it becomes what all of them make of it
abbrev pub invariant-loop-table : goal.invariant-loop-table
invariant-loop-table l =
    found_after current_sdt (option_map sdt_held l.sdt) (drop l.table-index l.tables)
    ≡ found_after current_sdt (option_map sdt_held l.initial.sdt) l.tables

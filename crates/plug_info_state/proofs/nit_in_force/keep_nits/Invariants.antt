use Rattle.std.proofs.Common.{◌≡◌, drop}
use Rattle.std.specs.Prelude.{option_map}
use Rattle.ts_si.specs.SiTables.{nit_held}
use Rattle.plug_psi.specs.LastFound.{found_after}
use Rattle.plug_info_state.specs.NitInForce.{current_nit}
use Rattle.plug_info_state.proofs.nit_in_force.keep_nits.Given as goal

-- with the tables that are left it becomes what all of them make of it
abbrev pub invariant-loop-table : goal.invariant-loop-table
invariant-loop-table l = found_after current_nit (option_map nit_held l.nit) (drop l.table-index l.tables)
    ≡ found_after current_nit (option_map nit_held l.fn.nit) l.tables

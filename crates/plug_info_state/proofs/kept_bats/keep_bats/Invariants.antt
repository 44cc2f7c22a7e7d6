use Rattle.std.proofs.Common.{◌≡◌, ℕ, drop}
use Rattle.plug_psi.specs.LastFound.{found_after}
use Rattle.plug_info_state.specs.BatsInForce.{current_bat_of}
use Rattle.plug_info_state.specs.BatStands.{kept_bat}
use Rattle.plug_info_state.proofs.kept_bats.keep_bats.Given as goal

-- with the tables that are left they become what all of them make of them
abbrev pub invariant-loop-table : goal.invariant-loop-table
invariant-loop-table l = (id : ℕ) → found_after (current_bat_of id) (kept_bat l.kept id) (drop l.table-index l.tables)
    ≡ found_after (current_bat_of id) (kept_bat l.fn.kept id) l.tables

-- The BATs that are kept. This project's own rule.
use Rattle.std.specs.Prelude.{ℕ, Ok, Option, nat_eq, option_map}
use Rattle.indexmap.specs.IndexMap.{get}
use Rattle.ts_table_rows.specs.TableValues.{TableHolding}
use Rattle.ts_si.specs.SiTables.{bat_held}
use Rattle.plug_psi.specs.CurrentTables.{current_in}
use Rattle.plug_info_state.specs.declared.kept_bats.KeptBats.{KeptBats}

-- the BAT that is kept of a bouquet
abbrev pub kept_bat : KeptBats → ℕ → Option TableHolding
kept_bat kept id = option_map bat_held (get nat_eq kept.bats id)

-- a table that was read, if it is current
abbrev pub current_one : TableHolding → Option TableHolding
current_one table = current_in (Ok table)

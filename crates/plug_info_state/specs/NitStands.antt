-- When the NIT that is kept stands for the packets that were fed. This project's own rule.
use Rattle.std.specs.Prelude.{◌≡◌, ℕ, List, Option, Ok, option_map}
use Rattle.ts_demux.specs.PidTables as reading
use Rattle.ts_table_rows.specs.TableValues.{TableHolding}
use Rattle.ts_si.specs.SiTables.{nit_held}
use Rattle.plug_psi.specs.CurrentTables.{current_in}
use Rattle.plug_info_state.specs.NitInForce.{nit_of, of_actual_network}
use Rattle.plug_info_state.specs.declared.nit_in_force.NitInForce.{NitInForce}

-- a table that was read, if it is current and of the actual network
abbrev pub actual_one : TableHolding → Option TableHolding
actual_one table = of_actual_network (current_in (Ok table))

-- the NIT that is kept
abbrev pub kept_nit : NitInForce → Option TableHolding
kept_nit n = option_map nit_held n.nit

-- the tables on PID 16 were read from all packets fed, and the NIT is the one in force
pub record HasFedNit (n : NitInForce) (fed : List (List ℕ)) : Type 0 where
  pub read : reading.StandsFor n.tables 16 fed
  pub kept : kept_nit n ≡ nit_of fed

-- When the CAT in force stands for the packets that were fed. This project's own rule.
use Rattle.std.specs.Prelude.{◌≡◌, ℕ, List, option_map}
use Rattle.ts_demux.specs.PidTables as reading
use Rattle.ts_psi.specs.CatTables.{cat_held}
use Rattle.plug_psi.specs.CatInForce.{cat_of}
use Rattle.plug_info_state.specs.declared.cat_in_force.CatInForce.{CatInForce}

-- the tables on PID 1 were read from all packets fed, and the CAT is the one in force
pub record HasFedCat (c : CatInForce) (fed : List (List ℕ)) : Type 0 where
  pub read : reading.StandsFor c.tables 1 fed
  pub kept : option_map cat_held c.cat ≡ cat_of fed

-- When the other tables that are read stand for the packets that were fed. This project's own rule.
use Rattle.std.specs.Prelude.{ℕ, List}
use Rattle.plug_info_state.specs.CatStands.{HasFedCat}
use Rattle.plug_info_state.specs.EitStands.{HasFedEit}
use Rattle.plug_info_state.specs.NitStands.{HasFedNit}
use Rattle.plug_info_state.specs.declared.other_tables.OtherTables.{OtherTables}

-- each stands for all packets fed
pub record HasFedOthers (others : OtherTables) (fed : List (List ℕ)) : Type 0 where
  pub cat : HasFedCat others.cat fed
  pub nit : HasFedNit others.nit fed
  pub eit : HasFedEit others.eit fed

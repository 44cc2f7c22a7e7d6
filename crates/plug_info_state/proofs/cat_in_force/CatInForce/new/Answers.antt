use Rattle.std.proofs.Common.{refl}
use Rattle.plug_info_state.proofs.CatLemmas.{cat-new}
use Rattle.plug_info_state.proofs.cat_in_force.CatInForce.new.Goals as goal

pub returns : goal.returns
returns c = cat-new _ c.in_ok-tables.ensures refl

use Rattle.std.proofs.Common.{refl}
use Rattle.plug_info_state.proofs.NitLemmas.{nit-new}
use Rattle.plug_info_state.proofs.nit_in_force.NitInForce.new.Goals as goal

pub returns : goal.returns
returns c = nit-new _ c.in_ok-tables.ensures refl

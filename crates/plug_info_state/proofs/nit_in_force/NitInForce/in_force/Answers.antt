use Rattle.std.proofs.Common.{ap, ◌∙◌}
use Rattle.std.specs.Prelude.{option_map}
use Rattle.ts_si.specs.SiTables.{nit_held}
use Rattle.plug_info_state.proofs.nit_in_force.NitInForce.in_force.Goals as goal

pub returns : goal.returns
returns c = λ fed w. ap (option_map nit_held) c.as_ref.ensures.value ∙ w.kept

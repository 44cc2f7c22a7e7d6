use Rattle.plug_info_state.proofs.sdt_and_bats.SdtAndBats.in_force.Goals as goal

pub returns : goal.returns
returns c = λ fed w. c.in_force.ensures fed w.sdt

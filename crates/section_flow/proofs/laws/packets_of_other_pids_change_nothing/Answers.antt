use Rattle.section_flow.proofs.OtherPids.{flow-elsewhere}
use Rattle.section_flow.proofs.laws.packets_of_other_pids_change_nothing.Goals as goal

pub returns : goal.returns
returns c = λ flow pid edit met packet h other. flow-elsewhere flow pid edit met packet h other c.other_packets_change_nothing.ensures

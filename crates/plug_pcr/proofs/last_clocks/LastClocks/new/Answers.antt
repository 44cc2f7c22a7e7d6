use Rattle.plug_pcr.proofs.LastKept.{remembers_none}
use Rattle.plug_pcr.proofs.last_clocks.LastClocks.new.Goals as goal

pub returns : goal.returns
returns c = λ conf. remembers_none conf _ c.in_ok-filled.ensures.each

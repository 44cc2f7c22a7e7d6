use Rattle.monitor_counters.proofs.KeptPackets.{remembers_none}
use Rattle.monitor_counters.proofs.last_mets.LastMets.new.Goals as goal

pub returns : goal.returns
returns c = remembers_none _ c.in_ok-filled.ensures.each

use Rattle.plug_eit.proofs.EventStartLemmas.{start-is}
use Rattle.plug_eit.proofs.event_start.start_of.Goals as goal

pub returns : goal.returns
returns c = start-is _

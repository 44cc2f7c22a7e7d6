use Rattle.monitor_pcrs.proofs.KeptClocks.{remembers_none}
use Rattle.monitor_pcrs.proofs.pcr_steps.PcrSteps.new.Goals as goal

pub returns-clause-fresh : goal.returns-clause-fresh
returns-clause-fresh c = remembers_none _ c.in_ok-filled.ensures.each

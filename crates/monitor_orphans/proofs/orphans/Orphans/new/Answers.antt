use Rattle.monitor_orphans.proofs.Turning.{follows_none}
use Rattle.monitor_orphans.proofs.orphans.Orphans.new.Goals as goal

pub returns : goal.returns
returns c = λ pcr_pid. follows_none pcr_pid _ c.in_ok-filled.ensures.each

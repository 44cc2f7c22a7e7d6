use Rattle.monitor_orphans.proofs.Turning.{follows_dropped}
use Rattle.monitor_orphans.proofs.orphan_laws.a_dropped_cell_meets_no_pid.Goals as goal

pub returns : goal.returns
returns c = λ pcr_pid kept history r. follows_dropped pcr_pid kept history r

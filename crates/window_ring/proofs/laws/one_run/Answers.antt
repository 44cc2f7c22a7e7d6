use Rattle.window_ring.proofs.OneRun.{one_run}
use Rattle.window_ring.proofs.laws.one_run.Goals as goal

pub returns : goal.returns
returns c = λ plan rules input history kept run. one_run plan rules input history kept run

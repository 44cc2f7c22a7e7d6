use Rattle.chain_core.specs.ChainRun.{state_after}
use Rattle.chain_core.proofs.Soundness.{users_from, run-sound}
use Rattle.chain_core.proofs.VisitLaws.{quiet-over}
use Rattle.chain_core.proofs.laws.quiet_is_over.Goals as goal

pub returns : goal.returns
returns c plan visits users some_buffer run quiet =
    quiet-over plan (state_after plan visits) (run-sound plan (users_from plan users) visits run) some_buffer quiet

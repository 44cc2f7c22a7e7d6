use Rattle.std.proofs.Common.{◌∷◌}
use Rattle.chain_core.specs.ChainRun.{state_after}
use Rattle.chain_core.proofs.Soundness.{users_from, run-sound}
use Rattle.chain_core.proofs.VisitLaws.{news-hold, news-grow}
use Rattle.chain_core.proofs.laws.news_promises.Goals as goal

pub returns-clause-hold : goal.returns-clause-hold
returns-clause-hold c plan visits k users run =
    news-hold plan (state_after plan visits) k (run-sound plan (users_from plan users) visits run)

pub returns-clause-grow : goal.returns-clause-grow
unfolding state_after
returns-clause-grow c plan visits visit users run =
    let sound = users_from plan users in
    news-grow plan (state_after plan visits) visit (run-sound plan sound visits run.0) (run-sound plan sound (visit ∷ visits) run)

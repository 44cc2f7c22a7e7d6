use Rattle.chain_core.proofs.Theorem.{so-far, at-close}
use Rattle.chain_core.proofs.order.every_order.Goals as goal

pub returns-clause-so_far : goal.returns-clause-so_far
returns-clause-so_far c = so-far

pub returns-clause-at_close : goal.returns-clause-at_close
returns-clause-at_close c = at-close

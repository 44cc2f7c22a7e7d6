use Rattle.std.proofs.Common.{arith}
use Rattle.ts_psi.proofs.FitLemmas.{pat_fits}
use Rattle.ts_psi.proofs.OrderLemmas.{pat_ordered}
use Rattle.ts_psi.proofs.pat.Pat.table.Goals as goal

pub returns-clause-fits : goal.returns-clause-fits
returns-clause-fits c = pat_fits c.args.self.now c.pat_head-head.ensures.in_range (omega arith) c.args.self.now.network_in_range c.in_ok-services.ensures.fits

pub returns-clause-ordered : goal.returns-clause-ordered
returns-clause-ordered c = pat_ordered c.args.self.now c.in_ok-services.ensures.fits

use Rattle.std.proofs.Common.{arith}
use Rattle.ts_si.proofs.FitLemmas.{nit_fits}
use Rattle.ts_si.proofs.nit.Nit.table.Goals as goal

pub returns-clause-fits : goal.returns-clause-fits
returns-clause-fits c = nit_fits c.args.self.now c.table_head-head.ensures.in_range (omega arith) c.in_ok-body.ensures.fits

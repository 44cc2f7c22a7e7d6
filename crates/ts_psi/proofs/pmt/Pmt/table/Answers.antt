use Rattle.std.proofs.Common.{arith}
use Rattle.ts_psi.proofs.FitLemmas.{pmt_fits}
use Rattle.ts_psi.proofs.pmt.Pmt.table.Goals as goal

pub returns-clause-fits : goal.returns-clause-fits
returns-clause-fits c = pmt_fits c.args.self.now (omega arith) (omega arith) (omega arith) c.in_ok-items.ensures.fits

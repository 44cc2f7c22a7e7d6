use Rattle.std.proofs.Common.{arith}
use Rattle.ts_si.proofs.FitLemmas.{sdt_fits}
use Rattle.ts_si.proofs.sdt.Sdt.table.Goals as goal

pub returns-clause-fits : goal.returns-clause-fits
returns-clause-fits c = sdt_fits c.args.self.now c.table_head-head.ensures.in_range (omega arith) (omega arith) c.in_ok-items.ensures.fits

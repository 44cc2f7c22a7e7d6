use Rattle.std.proofs.Common.{arith}
use Rattle.ts_si.proofs.FitLemmas.{bat_fits}
use Rattle.ts_si.proofs.bat.Bat.table.Goals as goal

pub returns-clause-fits : goal.returns-clause-fits
returns-clause-fits c = bat_fits c.args.self.now c.table_head-head.ensures.in_range (omega arith) c.in_ok-body.ensures.fits

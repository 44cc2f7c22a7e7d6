use Rattle.std.proofs.Common.{arith}
use Rattle.ts_psi.proofs.FitLemmas.{cat_fits}
use Rattle.ts_psi.proofs.cat.Cat.table.Goals as goal

pub returns-clause-fits : goal.returns-clause-fits
returns-clause-fits c = cat_fits c.args.self.now (omega arith)

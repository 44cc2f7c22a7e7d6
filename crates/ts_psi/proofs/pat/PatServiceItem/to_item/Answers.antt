use Rattle.std.proofs.Common.{arith}
use Rattle.ts_psi.proofs.FitLemmas.{service_fits}
use Rattle.ts_psi.proofs.pat.PatServiceItem.to_item.Goals as goal

pub returns-clause-fits : goal.returns-clause-fits
returns-clause-fits c = service_fits c.args.self.now (omega arith) (omega arith) (omega arith)

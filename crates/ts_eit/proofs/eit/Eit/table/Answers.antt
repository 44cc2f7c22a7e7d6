use Rattle.ts_eit.proofs.FitLemmas.{eit_fits}
use Rattle.ts_eit.proofs.eit.Eit.table.Goals as goal

pub returns-clause-fits : goal.returns-clause-fits
returns-clause-fits c = eit_fits c.args.self.now c.table_head-head.ensures.in_range c.table_head-head.ensures.last c.in_ok-values.ensures.fit c.in_ok-items.ensures.fits

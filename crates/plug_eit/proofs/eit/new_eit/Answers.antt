use Rattle.std.proofs.Common.{zero-le}
use Rattle.plug_eit.proofs.eit.new_eit.Goals as goal

pub returns-clause-fresh : goal.returns-clause-fresh
returns-clause-fresh c = (c.in_ok-steps.ensures.fresh, zero-le)

use Rattle.std.proofs.Common.{zero-le}
use Rattle.plug_rename.proofs.rename.new_rename.Goals as goal

pub returns-clause-fresh : goal.returns-clause-fresh
returns-clause-fresh c = (c.in_ok-steps.ensures.fresh, zero-le)

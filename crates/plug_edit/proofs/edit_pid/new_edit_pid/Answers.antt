use Rattle.std.proofs.Common.{zero-le}
use Rattle.plug_edit.proofs.edit_pid.new_edit_pid.Goals as goal

pub returns-clause-fresh : goal.returns-clause-fresh
returns-clause-fresh g c = (c.in_ok-steps.ensures.fresh, zero-le)

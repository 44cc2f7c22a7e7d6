use Rattle.plug_psi.specs.InForce.{follows}
use Rattle.plug_psi.proofs.in_force.InForce.new.Goals as goal

pub returns : goal.returns
returns c = record { working = c.unset.ensures; pat_fed = c.in_ok-fresh.ensures; entries = c.new.ensures tt follows }

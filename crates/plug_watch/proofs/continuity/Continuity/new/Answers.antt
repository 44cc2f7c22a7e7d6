use Rattle.plug_watch.proofs.continuity.Continuity.new.Goals as goal

pub returns-clause-rule : goal.returns-clause-rule
returns-clause-rule c = rw c.in_ok-of.ensures

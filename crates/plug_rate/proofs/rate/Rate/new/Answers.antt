use Rattle.plug_rate.proofs.rate.Rate.new.Goals as goal

pub returns-clause-rule : goal.returns-clause-rule
returns-clause-rule c = rw c.in_ok-of.ensures

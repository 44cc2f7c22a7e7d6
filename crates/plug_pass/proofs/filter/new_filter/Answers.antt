use Rattle.plug_pass.proofs.filter.new_filter.Goals as goal

pub returns-clause-rule : goal.returns-clause-rule
returns-clause-rule c = rw (c.in_ok-of.ensures, c.in_ok-of-2.ensures, c.in_ok-of-3.ensures)

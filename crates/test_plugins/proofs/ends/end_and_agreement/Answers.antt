use Rattle.test_plugins.proofs.ends.end_and_agreement.Goals as goal

pub agreed-requires : goal.agreed-requires
agreed-requires c = record { history = _; mark = 0; holds = c.apply-end.ensures.met.1 }

use Rattle.chain_plays.proofs.ahead.open_play.Goals as goal

pub returns-in-Ok-clause-ahead : goal.returns-in-Ok-clause-ahead
returns-in-Ok-clause-ahead g c = c.seat_input.ensures c.args.plan.now c.requires.valid c.requires.plugins c.in-Ok.ensures.ring

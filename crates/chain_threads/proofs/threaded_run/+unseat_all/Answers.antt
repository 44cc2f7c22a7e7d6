use Rattle.std.proofs.Common.{arith}
use Rattle.chain_threads.proofs.SeatLemmas.{parts_none, seats_none}
use Rattle.chain_threads.proofs.threaded_run.+unseat_all.Goals as goal

pub returns-then-len-eq0-clause-parts : goal.returns-then-len-eq0-clause-parts
returns-then-len-eq0-clause-parts g t c = parts_none c.args.stages.items c.args.parts.now.items (omega arith)

pub returns-then-len-eq0-clause-seats : goal.returns-then-len-eq0-clause-seats
returns-then-len-eq0-clause-seats g t c = seats_none c.args.stages.items c.args.seats.now.items (omega arith)

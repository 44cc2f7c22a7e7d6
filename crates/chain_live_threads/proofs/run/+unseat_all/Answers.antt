use Rattle.std.proofs.Common.{arith}
use Rattle.chain_live_threads.proofs.SeatLemmas.{parts-none, seats-none}
use Rattle.chain_live_threads.proofs.run.+unseat_all.Goals as goal

pub returns-then-len-eq0-clause-parts : goal.returns-then-len-eq0-clause-parts
returns-then-len-eq0-clause-parts g t c = parts-none c.args.stages.items c.args.parts.now.items (omega arith)

pub returns-then-len-eq0-clause-seats : goal.returns-then-len-eq0-clause-seats
returns-then-len-eq0-clause-seats g t c = seats-none c.args.stages.items c.args.seats.now.items (omega arith)

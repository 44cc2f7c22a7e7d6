use Rattle.std.proofs.Common.{length}
use Rattle.chain_live_threads.proofs.run.+seat_all.Given as goal

abbrev pub decreases-seat_all : goal.decreases-seat_all
decreases-seat_all g l = length l.parts.now.items

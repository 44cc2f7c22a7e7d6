use Rattle.std.proofs.Common.{length}
use Rattle.chain_live_threads.proofs.run.+unseat_all.Given as goal

abbrev pub decreases-unseat_all : goal.decreases-unseat_all
decreases-unseat_all g l = length l.stages.items

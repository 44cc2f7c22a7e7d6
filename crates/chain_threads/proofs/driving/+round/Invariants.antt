use Rattle.std.proofs.Common.{length}
use Rattle.chain_threads.proofs.driving.+round.Given as goal

abbrev pub decreases-round : goal.decreases-round
decreases-round g l = length l.stages.now

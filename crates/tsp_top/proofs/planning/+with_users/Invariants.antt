use Rattle.std.proofs.Common.{length}
use Rattle.tsp_top.proofs.planning.+with_users.Given as goal

abbrev pub decreases-with_users : goal.decreases-with_users
decreases-with_users l = length l.items.now

use Rattle.std.proofs.Common.{length}
use Rattle.test_tsp.proofs.outcome.write_sections.Given as goal

abbrev pub decreases-loop-row : goal.decreases-loop-row
decreases-loop-row l = length l.left

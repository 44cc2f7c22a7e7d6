use Rattle.std.proofs.Common.{length}
use Rattle.plug_move.proofs.remap_conf.+has_distinct_targets.Given as goal

abbrev pub decreases-has_distinct_targets : goal.decreases-has_distinct_targets
decreases-has_distinct_targets l = length l.pairs.now

use Rattle.std.proofs.Common.{length}
use Rattle.plug_move.proofs.remap_conf.+has_distinct_sources.Given as goal

abbrev pub decreases-has_distinct_sources : goal.decreases-has_distinct_sources
decreases-has_distinct_sources l = length l.pairs.now

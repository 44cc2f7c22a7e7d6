use Rattle.std.proofs.Common.{length}
use Rattle.tsp_top.proofs.ready.+add_plugins.Given as goal

abbrev pub decreases-add_plugins : goal.decreases-add_plugins
decreases-add_plugins l = length l.items.now

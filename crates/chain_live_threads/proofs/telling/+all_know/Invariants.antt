use Rattle.std.proofs.Common.{◌-◌, length}
use Rattle.chain_live_threads.proofs.telling.+all_know.Given as goal

abbrev pub decreases-all_know : goal.decreases-all_know
decreases-all_know g l = length l.row.now - l.plugin

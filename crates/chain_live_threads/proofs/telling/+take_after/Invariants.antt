use Rattle.std.proofs.Common.{◌-◌, length}
use Rattle.chain_live_threads.proofs.telling.+take_after.Given as goal

abbrev pub decreases-take_after : goal.decreases-take_after
decreases-take_after g l = length l.row.now - l.plugin

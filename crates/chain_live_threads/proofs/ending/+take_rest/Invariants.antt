use Rattle.std.proofs.Common.{◌-◌, length}
use Rattle.chain_live_threads.proofs.ending.+take_rest.Given as goal

abbrev pub decreases-take_rest : goal.decreases-take_rest
decreases-take_rest g l = length l.plugins.now.items - l.plugin

use Rattle.std.proofs.Common.{vec_len}
use Rattle.chain_run.proofs.parts.+take_plugins.Given as goal

abbrev pub decreases-take_plugins : goal.decreases-take_plugins
decreases-take_plugins g l = vec_len l.parts.now

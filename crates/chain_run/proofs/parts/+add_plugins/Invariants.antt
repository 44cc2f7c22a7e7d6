use Rattle.std.proofs.Common.{vec_len}
use Rattle.chain_run.proofs.parts.+add_plugins.Given as goal

abbrev pub decreases-add_plugins : goal.decreases-add_plugins
decreases-add_plugins g l = vec_len l.plugins.now

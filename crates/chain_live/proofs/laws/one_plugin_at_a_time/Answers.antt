use Rattle.chain_live.proofs.LineLaws.{one-lines, one-sorted}
use Rattle.chain_live.proofs.laws.one_plugin_at_a_time.Goals as goal

pub returns-clause-lines : goal.returns-clause-lines
returns-clause-lines c = one-lines

pub returns-clause-sorted : goal.returns-clause-sorted
returns-clause-sorted c = one-sorted

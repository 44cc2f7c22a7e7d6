use Rattle.chain_live.proofs.LineLaws.{one-alone}
use Rattle.chain_live.proofs.laws.one_plugin_alone.Goals as goal

pub returns : goal.returns
returns c = one-alone

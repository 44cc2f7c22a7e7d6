use Rattle.chain_live.proofs.LineLaws.{only-met}
use Rattle.chain_live.proofs.laws.only_what_was_met.Goals as goal

pub returns : goal.returns
returns c = only-met

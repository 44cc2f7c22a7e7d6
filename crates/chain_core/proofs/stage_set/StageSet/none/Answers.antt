use Rattle.chain_core.proofs.SetLaws.{none-stages}
use Rattle.chain_core.proofs.stage_set.StageSet.none.Goals as goal

pub returns : goal.returns
returns c = none-stages

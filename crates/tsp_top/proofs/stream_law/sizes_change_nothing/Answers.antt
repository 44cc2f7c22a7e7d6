use Rattle.std.proofs.Common.{ap}
use Rattle.chain_model.specs.PureRun.{pure_run}
use Rattle.tsp_top.proofs.HeadlineLemmas as lemmas
use Rattle.tsp_top.proofs.stream_law.sizes_change_nothing.Goals as goal

pub returns : goal.returns
returns c = λ one other tables files same. ap pure_run (lemmas.same-but-sizes one other tables files same)

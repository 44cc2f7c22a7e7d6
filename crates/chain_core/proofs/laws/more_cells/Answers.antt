use Rattle.chain_core.proofs.ListsKept.{KeepsList-more}
use Rattle.chain_core.proofs.Closing.{past-passes}
use Rattle.chain_core.proofs.laws.more_cells.Goals as goal

pub returns-clause-keeps : goal.returns-clause-keeps
returns-clause-keeps c rule met all given plugins k ended p keeps =
    KeepsList-more rule met all given plugins k ended p keeps

pub returns-clause-passes : goal.returns-clause-passes
returns-clause-passes c = past-passes

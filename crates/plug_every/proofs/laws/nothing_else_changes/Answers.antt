use Rattle.plug_every.proofs.EveryLaws.{every-same}
use Rattle.plug_every.proofs.laws.nothing_else_changes.Goals as goal

pub returns-clause-cells : goal.returns-clause-cells
returns-clause-cells c = every-same

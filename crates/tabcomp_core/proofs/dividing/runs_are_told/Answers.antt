use Rattle.tabcomp_core.proofs.StoppedRuns.{stopped_runs}
use Rattle.tabcomp_core.proofs.ToldRuns.{only_runs, told_runs}
use Rattle.tabcomp_core.proofs.dividing.runs_are_told.Goals as goal

pub returns-clause-whole : goal.returns-clause-whole
returns-clause-whole c = λ ss runs is. told_runs ss runs is

pub returns-clause-only : goal.returns-clause-only
returns-clause-only c = λ ss runs are. only_runs ss runs are

pub returns-clause-stops : goal.returns-clause-stops
returns-clause-stops c = λ ss place is. stopped_runs ss place is

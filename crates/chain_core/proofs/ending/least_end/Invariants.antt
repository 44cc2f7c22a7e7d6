use Rattle.std.proofs.Common.{◌≡◌}
use Rattle.chain_core.specs.Close.{least_among}
use Rattle.chain_core.specs.CoreNumbers.{progress_in, endings_before}
use Rattle.chain_core.proofs.ending.least_end.Given as goal

abbrev pub invariant-loop-stage : goal.invariant-loop-stage
invariant-loop-stage l =
    l.least ≡ least_among l.fn.limit (endings_before (progress_in l.progress) l.stage)

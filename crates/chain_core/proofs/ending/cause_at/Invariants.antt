use Rattle.std.proofs.Common.{◌≡◌}
use Rattle.chain_core.specs.CoreNumbers.{progress_in, endings_before}
use Rattle.chain_core.proofs.Endings.{until_at, last_at}
use Rattle.chain_core.proofs.ending.cause_at.Given as goal

abbrev pub invariant-loop-stage : goal.invariant-loop-stage
invariant-loop-stage l =
    (l.until ≡ until_at l.cut (endings_before (progress_in l.progress) l.stage))
    × (l.last ≡ last_at l.cut (endings_before (progress_in l.progress) l.stage))

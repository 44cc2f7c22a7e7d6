use Rattle.std.proofs.Common.{◌-◌, ◌≤◌}
use Rattle.chain_core.specs.CoreNumbers.{progress_in}
use Rattle.chain_core.proofs.LimitLaws.{IsLimitBelow}
use Rattle.chain_core.proofs.limit.limit_of.Given as goal

abbrev pub invariant-loop-stage : goal.invariant-loop-stage
invariant-loop-stage l =
    IsLimitBelow l.users (λ k. (progress_in l.progress k).agreed) l.from l.asked l.limit × (l.from ≤ 64)

abbrev pub decreases-loop-stage : goal.decreases-loop-stage
decreases-loop-stage l = 64 - l.from

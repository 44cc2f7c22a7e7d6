use Rattle.std.proofs.Common.{ℕ, ◌<◌}
use Rattle.std.specs.Prelude.{IsSome}
use Rattle.chain_core.specs.CoreNumbers.{progress_of_core}
use Rattle.test_chain.proofs.driver.Driver.all_ended.Given as goal

-- each stage so far has ended
abbrev pub invariant-loop-stage : goal.invariant-loop-stage
invariant-loop-stage l = (k : ℕ) → k < l.stage → IsSome (progress_of_core l.self k).ended

use Rattle.std.proofs.Common.{◌≡◌, length}
use Rattle.ts_os.proofs.opening.protect_named.Given as goal

-- one answer for each name so far
abbrev pub invariant-loop-name : goal.invariant-loop-name
invariant-loop-name l = length l.answers.items ≡ l.name-index

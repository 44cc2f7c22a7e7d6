use Rattle.std.proofs.Common.{◌≡◌, length}
use Rattle.chain_tells.specs.Waiting.{waiting}
use Rattle.tsp_top.proofs.told_texts.let_go.Given as goal

abbrev pub invariant-loop-told : goal.invariant-loop-told
invariant-loop-told l = length l.lines.rows.items ≡ length l.initial.lines.rows.items

abbrev pub decreases-loop-told : goal.decreases-loop-told
decreases-loop-told l = length (waiting l.lines)

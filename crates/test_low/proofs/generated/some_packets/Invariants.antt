use Rattle.std.proofs.Common.{◌≡◌}
use Rattle.test_low.proofs.generated.some_packets.Given as goal

-- each packet so far was given
abbrev pub invariant-loop-i : goal.invariant-loop-i
invariant-loop-i g l = l.generator.given ≡ l.i

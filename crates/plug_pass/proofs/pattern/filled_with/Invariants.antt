use Rattle.std.proofs.Common.{◌≡◌, take}
use Rattle.plug_pass.specs.PatternRule.{repeated}
use Rattle.plug_pass.proofs.pattern.filled_with.Given as goal

abbrev pub invariant-loop-k : goal.invariant-loop-k
invariant-loop-k l = take l.k l.byte-items ≡ repeated l.pattern l.k

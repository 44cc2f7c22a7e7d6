use Rattle.std.proofs.Common.{refl}
use Rattle.ts_testgen.specs.Rules.{earlier}
use Rattle.ts_testgen.proofs.test_gen.TestGen.new.Goals as goal

pub invariant_of-result : goal.invariant_of-result
unfolding earlier
invariant_of-result c = (refl, c.in_ok-new.ensures)

use Rattle.std.proofs.Common.{arith}
use Rattle.plug_restuff.proofs.WaitLemmas.{rows-few}
use Rattle.plug_restuff.proofs.restuff.RestuffStepsSteps.step.Goals as goal

pub turn-given-requires-clause-in_range : goal.turn-given-requires-clause-in_range
turn-given-requires-clause-in_range c =
    let met = c.requires.met in
    let few = rows-few met.history in
    let cell = met.holds.0.cell in
    omega (arith, c.requires.in_range, met.count, few, cell)

-- The facts of fields that fit, which a search finds late.
use Rattle.std.proofs.Common.{arith}
use Rattle.std.proofs.lemmas.Grind.{common_steps}
use Rattle.ts_fields.specs.Fitting.{fits}
use Rattle.ts_descr_delivery.proofs.satellite.Beam.of.Goals as goal

pub returns-in_default-clause-held : goal.returns-in_default-clause-held
unfolding fits
returns-in_default-clause-held c = grind (arith, common_steps)

pub returns-in_default-clause-behind : goal.returns-in_default-clause-behind
unfolding fits
returns-in_default-clause-behind c = grind (arith, common_steps)

pub overflow_cast-beam : goal.overflow_cast-beam
unfolding fits
overflow_cast-beam c = grind (arith, common_steps)

pub overflow_cast-beam-2 : goal.overflow_cast-beam-2
unfolding fits
overflow_cast-beam-2 c = grind (arith, common_steps)

pub overflow_cast-beam-3 : goal.overflow_cast-beam-3
unfolding fits
overflow_cast-beam-3 c = grind (arith, common_steps)

pub overflow_cast-beam-4 : goal.overflow_cast-beam-4
unfolding fits
overflow_cast-beam-4 c = grind (arith, common_steps)

pub invariant_of-beam : goal.invariant_of-beam
unfolding fits
invariant_of-beam c = grind (arith, common_steps)

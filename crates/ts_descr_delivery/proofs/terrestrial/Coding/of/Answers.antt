-- The facts of fields that fit, which a search finds late.
use Rattle.std.proofs.Common.{arith}
use Rattle.std.proofs.lemmas.Grind.{common_steps}
use Rattle.ts_fields.specs.Fitting.{fits}
use Rattle.ts_descr_delivery.proofs.terrestrial.Coding.of.Goals as goal

pub returns-in_default-clause-held : goal.returns-in_default-clause-held
unfolding fits
returns-in_default-clause-held c = grind (arith, common_steps)

pub returns-in_default-clause-behind : goal.returns-in_default-clause-behind
unfolding fits
returns-in_default-clause-behind c = grind (arith, common_steps)

pub overflow_cast-coding : goal.overflow_cast-coding
unfolding fits
overflow_cast-coding c = grind (arith, common_steps)

pub overflow_cast-coding-2 : goal.overflow_cast-coding-2
unfolding fits
overflow_cast-coding-2 c = grind (arith, common_steps)

pub overflow_cast-coding-3 : goal.overflow_cast-coding-3
unfolding fits
overflow_cast-coding-3 c = grind (arith, common_steps)

pub overflow_cast-coding-4 : goal.overflow_cast-coding-4
unfolding fits
overflow_cast-coding-4 c = grind (arith, common_steps)

pub invariant_of-coding : goal.invariant_of-coding
unfolding fits
invariant_of-coding c = grind (arith, common_steps)

-- The facts of fields that fit, which a search finds late.
use Rattle.std.proofs.Common.{arith}
use Rattle.std.proofs.lemmas.Grind.{common_steps}
use Rattle.ts_fields.specs.Fitting.{fits}
use Rattle.ts_descr_dvb.proofs.listed_service.ListedServiceFields.of.Goals as goal

pub returns-in_default : goal.returns-in_default
unfolding fits
returns-in_default c = grind (arith, common_steps)

pub returns-in_default-2 : goal.returns-in_default-2
unfolding fits
returns-in_default-2 c = grind (arith, common_steps)

pub returns-in_default-3 : goal.returns-in_default-3
unfolding fits
returns-in_default-3 c = grind (arith, common_steps)

pub returns-in_default-4 : goal.returns-in_default-4
unfolding fits
returns-in_default-4 c = grind (arith, common_steps)

pub overflow_cast-result : goal.overflow_cast-result
unfolding fits
overflow_cast-result c = grind (arith, common_steps)

pub overflow_cast-result-2 : goal.overflow_cast-result-2
unfolding fits
overflow_cast-result-2 c = grind (arith, common_steps)

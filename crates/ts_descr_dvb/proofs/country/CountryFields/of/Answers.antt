-- The facts of fields that fit, which a search finds late.
use Rattle.std.proofs.Common.{arith}
use Rattle.std.proofs.lemmas.Grind.{common_steps}
use Rattle.ts_fields.specs.Fitting.{fits}
use Rattle.ts_descr_dvb.proofs.country.CountryFields.of.Goals as goal

pub returns-in_default : goal.returns-in_default
unfolding fits
returns-in_default c = grind (arith, common_steps)

pub of-requires : goal.of-requires
unfolding fits
of-requires c = grind (arith, common_steps)

pub returns-in_default-of : goal.returns-in_default-of
unfolding fits
returns-in_default-of c = grind (arith, common_steps)

pub overflow_cast-result : goal.overflow_cast-result
unfolding fits
overflow_cast-result c = grind (arith, common_steps)

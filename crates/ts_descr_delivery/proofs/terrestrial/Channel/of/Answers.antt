-- The facts of fields that fit, which a search finds late.
use Rattle.std.proofs.Common.{arith}
use Rattle.std.proofs.lemmas.Grind.{common_steps}
use Rattle.ts_fields.specs.Fitting.{fits}
use Rattle.ts_descr_delivery.proofs.terrestrial.Channel.of.Goals as goal

pub returns-in_default-clause-held : goal.returns-in_default-clause-held
unfolding fits
returns-in_default-clause-held c = grind (arith, common_steps)

pub returns-in_default-clause-behind : goal.returns-in_default-clause-behind
unfolding fits
returns-in_default-clause-behind c = grind (arith, common_steps)

pub overflow_cast-channel : goal.overflow_cast-channel
unfolding fits
overflow_cast-channel c = grind (arith, common_steps)

pub overflow_cast-channel-2 : goal.overflow_cast-channel-2
unfolding fits
overflow_cast-channel-2 c = grind (arith, common_steps)

pub overflow_cast-channel-3 : goal.overflow_cast-channel-3
unfolding fits
overflow_cast-channel-3 c = grind (arith, common_steps)

pub overflow_cast-channel-4 : goal.overflow_cast-channel-4
unfolding fits
overflow_cast-channel-4 c = grind (arith, common_steps)

pub overflow_cast-channel-5 : goal.overflow_cast-channel-5
unfolding fits
overflow_cast-channel-5 c = grind (arith, common_steps)

pub invariant_of-channel : goal.invariant_of-channel
unfolding fits
invariant_of-channel c = grind (arith, common_steps)

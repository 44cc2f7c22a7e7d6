use Rattle.ts_eit.proofs.TimeLemmas.{pair_again, pair_most}
use Rattle.std.proofs.Common.{arith}
use Rattle.ts_eit.proofs.times.pair_value.Goals as goal

pub returns-clause-bits : goal.returns-clause-bits
returns-clause-bits c = pair_again c.args.bits c.requires

pub returns-clause-below : goal.returns-clause-below
returns-clause-below c = omega (arith, pair_most 99 c.args.bits c.requires)

pub returns-clause-most : goal.returns-clause-most
returns-clause-most c = λ most valid. pair_most most c.args.bits valid

use Rattle.ts_jtree.proofs.NumberLemmas.{after_sign, without_sign}
use Rattle.ts_jtree.proofs.number.number_of_text.Goals as goal

pub returns-in-Some : goal.returns-in-Some
returns-in-Some c = rw (after_sign c.args.text.now c.in-Some.digits.now c.in-Some.ensures.cases) c.number_of_digits.ensures

pub returns-in-None : goal.returns-in-None
returns-in-None c = rw (without_sign c.args.text.now c.in-None.ensures.cases) c.number_of_digits-in-None.ensures

use Rattle.plugin_options.proofs.NumberLemmas.{after_sign, without_sign}
use Rattle.plugin_options.proofs.number.read_number.Goals as goal

pub returns-in-Some-clause-some : goal.returns-in-Some-clause-some
returns-in-Some-clause-some c = rw (after_sign c.args.text.now c.in-Some.digits.now c.in-Some.ensures.cases) c.read_numeral.ensures.some

pub returns-in-Some-clause-none : goal.returns-in-Some-clause-none
returns-in-Some-clause-none c = rw (after_sign c.args.text.now c.in-Some.digits.now c.in-Some.ensures.cases) c.read_numeral.ensures.none

pub returns-in-None-clause-some : goal.returns-in-None-clause-some
returns-in-None-clause-some c = rw (without_sign c.args.text.now c.in-None.ensures.cases) c.read_numeral-in-None.ensures.some

pub returns-in-None-clause-none : goal.returns-in-None-clause-none
returns-in-None-clause-none c = rw (without_sign c.args.text.now c.in-None.ensures.cases) c.read_numeral-in-None.ensures.none

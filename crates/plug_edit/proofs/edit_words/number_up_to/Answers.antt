use Rattle.plug_edit.proofs.WordsLemmas.{below_next}
use Rattle.plug_edit.proofs.edit_words.number_up_to.Goals as goal

pub returns-clause-range : goal.returns-clause-range
returns-clause-range c = below_next c.number.result 0 c.args.most c.number.ensures.range

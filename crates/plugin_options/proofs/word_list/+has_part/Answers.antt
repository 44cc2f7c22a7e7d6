use Rattle.plugin_options.proofs.WordListLemmas.{part-alone, part-first, part-later}
use Rattle.plugin_options.proofs.word_list.+has_part.Goals as goal

pub returns-then-eq : goal.returns-then-eq
returns-then-eq t c =
    part-first c.args.word.now c.args.text.now c.in-Some.part.now c.in-Some.others.now c.in-Some.ensures.0 c.in-Some.ensures.1 c.in-Some.ensures.2 c.eq.result c.eq.ensures c.if-eq.true

pub returns-else-eq : goal.returns-else-eq
returns-else-eq t c =
    part-later c.args.word.now c.args.text.now c.in-Some.part.now c.in-Some.others.now c.in-Some.ensures.0 c.in-Some.ensures.1 c.in-Some.ensures.2 c.eq.result c.eq.ensures
    c.has_part.result c.if-eq.false c.has_part.ensures

pub returns-in-None : goal.returns-in-None
returns-in-None t c = part-alone c.args.word.now c.args.text.now c.in-None.ensures c.eq-in-None.result c.eq-in-None.ensures

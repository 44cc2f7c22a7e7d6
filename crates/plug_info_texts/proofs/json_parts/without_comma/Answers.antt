use Rattle.plug_info_texts.proofs.JsonLemmas.{stripped, unstripped}
use Rattle.plug_info_texts.proofs.json_parts.without_comma.Goals as goal

pub returns-in-Some : goal.returns-in-Some
returns-in-Some c = λ texts is. stripped c.args.items.now c.in-Some.rest.now texts c.in-Some.ensures.cases is

pub returns-in-None : goal.returns-in-None
returns-in-None c = λ texts is. unstripped c.args.items.now texts c.in-None.ensures.cases is

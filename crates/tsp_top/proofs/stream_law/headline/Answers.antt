use Rattle.tsp_top.proofs.HeadlineLemmas as lemmas
use Rattle.tsp_top.proofs.stream_law.headline.Goals as goal

pub returns-clause-told : goal.returns-clause-told
returns-clause-told c = lemmas.headline

pub returns-clause-any_desk : goal.returns-clause-any_desk
returns-clause-any_desk c = lemmas.of-some

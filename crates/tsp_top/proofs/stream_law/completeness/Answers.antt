use Rattle.tsp_top.proofs.HeadlineLemmas as lemmas
use Rattle.tsp_top.proofs.stream_law.completeness.Goals as goal

pub returns : goal.returns
returns c = lemmas.completeness

use Rattle.tsp_top.proofs.HeadlineLemmas as lemmas
use Rattle.tsp_top.proofs.stream_law.memory_first.Goals as goal

pub returns : goal.returns
returns c = lemmas.memory-first

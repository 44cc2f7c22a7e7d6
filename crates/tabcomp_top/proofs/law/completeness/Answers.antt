use Rattle.tabcomp_top.proofs.CauseLemmas as lemmas
use Rattle.tabcomp_top.proofs.law.completeness.Goals as goal

pub returns : goal.returns
returns c = lemmas.completeness c.compiled_is_decompiled.ensures

use Rattle.tabcomp_top.proofs.CauseLemmas as lemmas
use Rattle.tabcomp_top.proofs.law.causes.Goals as goal

pub returns-clause-valid : goal.returns-clause-valid
returns-clause-valid c = lemmas.causes c.compiled_is_decompiled.ensures

pub returns-clause-canonical : goal.returns-clause-canonical
returns-clause-canonical c = lemmas.canonical-told c.compiled_is_decompiled.ensures

use Rattle.ts_jtree.proofs.ShownLemmas.{fit_shown}
use Rattle.ts_jtree.proofs.element_laws.fit_is_shown.Goals as goal

pub returns : goal.returns
returns c = λ rs values fit. fit_shown rs values fit

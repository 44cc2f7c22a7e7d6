use Rattle.std.proofs.Common.{refl, subst, sym}
use Rattle.std.specs.Prelude.{IsSome}
use Rattle.switch_top.proofs.TheoremLemmas.{call-pure}
use Rattle.switch_top.proofs.laws.switched_whole.Goals as goal

pub returns : goal.returns
returns c = λ words given files old new answer read told calls nothing. call-pure (λ ws given n read fault. c.first_fault_law.ensures.of_the_form ws n (subst IsSome (sym read) refl) fault) words old new given read files told answer calls nothing

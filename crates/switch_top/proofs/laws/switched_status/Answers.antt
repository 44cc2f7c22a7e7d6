use Rattle.std.proofs.Common.{refl, subst, sym}
use Rattle.std.specs.Prelude.{IsSome}
use Rattle.switch_top.proofs.TheoremLemmas.{call-done, call-whole}
use Rattle.switch_top.proofs.laws.switched_status.Goals as goal

pub returns : goal.returns
returns c = record {
  whole = λ words given files old new answer read told calls tells. call-whole (λ ws given n read fault. c.first_fault_law.ensures.of_the_form ws n (subst IsSome (sym read) refl) fault) words old new given read files told answer calls tells;
  done = call-done;
}

use Rattle.std.proofs.Common.{refl, subst, sym}
use Rattle.std.specs.Prelude.{IsSome}
use Rattle.switch_top.proofs.TellsLemmas.{call-refuses}
use Rattle.switch_top.proofs.TheoremLemmas.{call-fault, call-words, call-write}
use Rattle.switch_top.proofs.laws.switched_faults.Goals as goal

pub returns : goal.returns
returns c = record {
  words = call-words;
  refused = λ words old new answer word fault calls. call-refuses (λ ws given n read fault. c.first_fault_law.ensures.of_the_form ws n (subst IsSome (sym read) refl) fault) words old new answer word fault calls;
  read = λ words given old new read calls. call-fault (λ ws given n read fault. c.first_fault_law.ensures.of_the_form ws n (subst IsSome (sym read) refl) fault) words old new given read calls;
  write = call-write;
}

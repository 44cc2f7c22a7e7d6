use Rattle.std.proofs.Common.{refl, subst, sym}
use Rattle.std.specs.Prelude.{IsSome}
use Rattle.switch_top.proofs.TellsLemmas.{call-tells}
use Rattle.switch_top.proofs.laws.switched_ends.Goals as goal

pub returns : goal.returns
returns c = λ words given files old new answer read told calls.
    call-tells (λ ws given n read fault. c.first_fault_law.ensures.of_the_form ws n (subst IsSome (sym read) refl) fault) c.words_read_back.ensures.valid words given files old new answer read told calls

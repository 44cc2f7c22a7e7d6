use Rattle.std.proofs.Common.{refl, subst, sym}
use Rattle.std.specs.Prelude.{IsSome}
use Rattle.switch_top.proofs.TellsLemmas.{call-in-sync, found-plays}
use Rattle.switch_top.proofs.laws.switched_found.Goals as goal

pub returns : goal.returns
returns c = record {
  in_sync = call-in-sync (λ words given n read fault. c.first_fault_law.ensures.of_the_form words n (subst IsSome (sym read) refl) fault) c.words_read_back.ensures.valid;
  plain = found-plays;
}

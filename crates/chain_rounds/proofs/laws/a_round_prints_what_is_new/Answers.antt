use Rattle.chain_rounds.proofs.RoundLemmas.{round-prints}
use Rattle.chain_rounds.proofs.ShownLemmas.{shown-prints}
use Rattle.chain_rounds.proofs.laws.a_round_prints_what_is_new.Goals as goal

pub returns-clause-lines : goal.returns-clause-lines
returns-clause-lines c = round-prints

pub returns-clause-shown : goal.returns-clause-shown
returns-clause-shown c = shown-prints

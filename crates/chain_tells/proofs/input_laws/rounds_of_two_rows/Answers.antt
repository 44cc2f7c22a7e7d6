use Rattle.chain_tells.proofs.InputLemmas.{in-parts}
use Rattle.chain_tells.proofs.input_laws.rounds_of_two_rows.Goals as goal

pub returns : goal.returns
returns c = in-parts

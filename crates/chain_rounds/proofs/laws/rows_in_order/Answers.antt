use Rattle.chain_rounds.proofs.RowLemmas.{rows-in_order}
use Rattle.chain_rounds.proofs.laws.rows_in_order.Goals as goal

pub returns : goal.returns
returns g c = rows-in_order

use Rattle.chain_model.proofs.PositionLaws.{position-behind, position-cell, position-count, position-ended}
use Rattle.chain_model.proofs.laws.each_position_by_itself.Goals as goal

pub returns-clause-ended : goal.returns-clause-ended
returns-clause-ended c = position-ended

pub returns-clause-count : goal.returns-clause-count
returns-clause-count c = position-count

pub returns-clause-cell : goal.returns-clause-cell
returns-clause-cell c = position-cell

pub returns-clause-behind : goal.returns-clause-behind
returns-clause-behind c = position-behind

use Rattle.std.proofs.Common.{[], refl, arith}
use Rattle.ts_table_rows.proofs.GreedyLemmas.{pieces_join, pieces_fit, pieces_full}
use Rattle.ts_table_rows.proofs.filling_laws.filled_greedily.Goals as goal

pub returns-clause-join : goal.returns-clause-join
returns-clause-join g c = λ size room xs. pieces_join size room 0 [] xs

pub returns-clause-fit : goal.returns-clause-fit
returns-clause-fit g c = λ size room xs each. pieces_fit size room 0 [] xs each refl (omega arith)

pub returns-clause-full : goal.returns-clause-full
returns-clause-full g c = λ size room xs. pieces_full size room 0 [] xs refl

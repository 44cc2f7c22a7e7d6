use Rattle.std.proofs.Common.{arith}
use Rattle.std.proofs.lemmas.Grind.{common_steps}
use Rattle.ts_table_rows.specs.FilledRows.{filled_rows}
use Rattle.ts_table_rows.proofs.write_run.filled_bodies.Goals as goal

pub returns : goal.returns
unfolding filled_rows
returns c = grind (arith, common_steps)

pub returns-in_err-empty : goal.returns-in_err-empty
unfolding filled_rows
returns-in_err-empty c = grind (arith, common_steps)

pub returns-in_err-pieces : goal.returns-in_err-pieces
unfolding filled_rows
returns-in_err-pieces c = grind (arith, common_steps)

pub returns-in_err-bodies : goal.returns-in_err-bodies
unfolding filled_rows
returns-in_err-bodies c = grind (arith, common_steps)

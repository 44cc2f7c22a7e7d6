use Rattle.std.proofs.Common.{arith}
use Rattle.std.proofs.lemmas.Grind.{common_steps}
use Rattle.ts_table_rows.proofs.read_run.join.Goals as goal

pub returns : goal.returns
returns c = grind (arith, common_steps)

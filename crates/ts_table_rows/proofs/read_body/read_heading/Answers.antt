use Rattle.std.proofs.Common.{arith}
use Rattle.std.proofs.lemmas.Grind.{common_steps}
use Rattle.ts_table_rows.specs.BodyReading.{read_heading}
use Rattle.ts_table_rows.proofs.read_body.read_heading.Goals as goal

pub returns : goal.returns
unfolding read_heading
returns c = grind (arith, common_steps)

pub returns-in_err-values : goal.returns-in_err-values
unfolding read_heading
returns-in_err-values c = grind (arith, common_steps)

pub returns-in_err-more : goal.returns-in_err-more
unfolding read_heading
returns-in_err-more c = grind (arith, common_steps)

pub returns-in_err-values-2 : goal.returns-in_err-values-2
unfolding read_heading
returns-in_err-values-2 c = grind (arith, common_steps)

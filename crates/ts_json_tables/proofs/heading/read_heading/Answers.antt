use Rattle.std.proofs.Common.{arith}
use Rattle.std.proofs.lemmas.Grind.{common_steps}
use Rattle.ts_json_tables.specs.HeadReading.{read_heading}
use Rattle.ts_json_tables.proofs.heading.read_heading.Goals as goal

pub returns : goal.returns
unfolding read_heading
returns c = grind (arith, common_steps)

pub returns-in_err-version : goal.returns-in_err-version
unfolding read_heading
returns-in_err-version c = grind (arith, common_steps)

pub returns-in_err-current : goal.returns-in_err-current
unfolding read_heading
returns-in_err-current c = grind (arith, common_steps)

pub returns-in_err-table_id : goal.returns-in_err-table_id
unfolding read_heading
returns-in_err-table_id c = grind (arith, common_steps)

pub returns-in_err-extension : goal.returns-in_err-extension
unfolding read_heading
returns-in_err-extension c = grind (arith, common_steps)

pub returns-in_err-values : goal.returns-in_err-values
unfolding read_heading
returns-in_err-values c = grind (arith, common_steps)

pub returns-in_err-numbers : goal.returns-in_err-numbers
unfolding read_heading
returns-in_err-numbers c = grind (arith, common_steps)

pub returns-in_err-others : goal.returns-in_err-others
unfolding read_heading
returns-in_err-others c = grind (arith, common_steps)

pub returns-in_err-network : goal.returns-in_err-network
unfolding read_heading
returns-in_err-network c = grind (arith, common_steps)

pub returns-in_err-append : goal.returns-in_err-append
unfolding read_heading
returns-in_err-append c = grind (arith, common_steps)

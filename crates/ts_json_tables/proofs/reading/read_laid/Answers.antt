use Rattle.std.proofs.Common.{arith}
use Rattle.std.proofs.lemmas.Grind.{common_steps}
use Rattle.ts_json_tables.specs.TableReading.{read_laid}
use Rattle.ts_json_tables.proofs.reading.read_laid.Goals as goal

pub returns : goal.returns
unfolding read_laid
returns c = grind (arith, common_steps)

pub returns-in_err-rows : goal.returns-in_err-rows
unfolding read_laid
returns-in_err-rows c = grind (arith, common_steps)

pub returns-in_err-check_keys : goal.returns-in_err-check_keys
unfolding read_laid
returns-in_err-check_keys c = grind (arith, common_steps)

pub returns-in_err-heading : goal.returns-in_err-heading
unfolding read_laid
returns-in_err-heading c = grind (arith, common_steps)

pub returns-in_err-nodes : goal.returns-in_err-nodes
unfolding read_laid
returns-in_err-nodes c = grind (arith, common_steps)

pub returns-in_err-found : goal.returns-in_err-found
unfolding read_laid
returns-in_err-found c = grind (arith, common_steps)

pub returns-in_err-items : goal.returns-in_err-items
unfolding read_laid
returns-in_err-items c = grind (arith, common_steps)

pub returns-in_err-append : goal.returns-in_err-append
unfolding read_laid
returns-in_err-append c = grind (arith, common_steps)

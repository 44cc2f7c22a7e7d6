use Rattle.std.proofs.Common.{arith}
use Rattle.std.proofs.lemmas.Grind.{common_steps}
use Rattle.ts_json_tables.specs.TableReading.{read_section}
use Rattle.ts_json_tables.proofs.children.read_payload.Goals as goal

pub returns : goal.returns
unfolding read_section
returns c = grind (arith, common_steps)

pub returns-in_err-members : goal.returns-in_err-members
unfolding read_section
returns-in_err-members c = grind (arith, common_steps)

pub returns-in_err-name : goal.returns-in_err-name
unfolding read_section
returns-in_err-name c = grind (arith, common_steps)

pub returns-in_err-check_name : goal.returns-in_err-check_name
unfolding read_section
returns-in_err-check_name c = grind (arith, common_steps)

pub returns-in_err-check_keys : goal.returns-in_err-check_keys
unfolding read_section
returns-in_err-check_keys c = grind (arith, common_steps)

pub returns-in_err-payload : goal.returns-in_err-payload
unfolding read_section
returns-in_err-payload c = grind (arith, common_steps)

pub returns-in_err-nodes : goal.returns-in_err-nodes
unfolding read_section
returns-in_err-nodes c = grind (arith, common_steps)

pub returns-in_err-no_children : goal.returns-in_err-no_children
unfolding read_section
returns-in_err-no_children c = grind (arith, common_steps)

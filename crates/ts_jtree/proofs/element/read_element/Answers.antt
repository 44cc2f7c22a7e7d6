use Rattle.std.proofs.Common.{arith}
use Rattle.std.proofs.lemmas.Grind.{common_steps}
use Rattle.ts_jtree.specs.Elements.{read_element}
use Rattle.ts_jtree.proofs.element.read_element.Goals as goal

pub returns : goal.returns
unfolding read_element
returns c = grind (arith, common_steps)

pub returns-in_err-members : goal.returns-in_err-members
unfolding read_element
returns-in_err-members c = grind (arith, common_steps)

pub returns-in_err-name : goal.returns-in_err-name
unfolding read_element
returns-in_err-name c = grind (arith, common_steps)

pub returns-in_err-check_name : goal.returns-in_err-check_name
unfolding read_element
returns-in_err-check_name c = grind (arith, common_steps)

pub returns-in_err-check_keys : goal.returns-in_err-check_keys
unfolding read_element
returns-in_err-check_keys c = grind (arith, common_steps)

pub returns-in_err-values : goal.returns-in_err-values
unfolding read_element
returns-in_err-values c = grind (arith, common_steps)

pub returns-in_err-nodes : goal.returns-in_err-nodes
unfolding read_element
returns-in_err-nodes c = grind (arith, common_steps)

use Rattle.std.proofs.Common.{arith}
use Rattle.std.proofs.lemmas.Grind.{common_steps}
use Rattle.ts_json_descr.specs.DescrReading.{read_holding}
use Rattle.ts_json_descr.proofs.formed_reading.read_item_body.Goals as goal

pub returns : goal.returns
unfolding read_holding
returns c = grind (arith, common_steps)

pub returns-in_err-check_keys : goal.returns-in_err-check_keys
unfolding read_holding
returns-in_err-check_keys c = grind (arith, common_steps)

pub returns-in_err-head : goal.returns-in_err-head
unfolding read_holding
returns-in_err-head c = grind (arith, common_steps)

pub returns-in_err-nodes : goal.returns-in_err-nodes
unfolding read_holding
returns-in_err-nodes c = grind (arith, common_steps)

pub returns-in_err-items : goal.returns-in_err-items
unfolding read_holding
returns-in_err-items c = grind (arith, common_steps)

use Rattle.std.proofs.Common.{arith}
use Rattle.std.proofs.lemmas.Grind.{common_steps}
use Rattle.ts_json_descr.proofs.formed_showing.formed_items_json.Goals as goal

pub formed_item_json-requires : goal.formed_item_json-requires
formed_item_json-requires c = grind (arith, common_steps)

pub loop-item-preserved : goal.loop-item-preserved
loop-item-preserved c = grind (arith, common_steps)

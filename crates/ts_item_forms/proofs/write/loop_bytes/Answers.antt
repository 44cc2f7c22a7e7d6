use Rattle.std.proofs.Common.{◌∙◌, []}
use Rattle.ts_fields.specs.Bodies.{body_held, item_page}
use Rattle.ts_item_forms.proofs.LoopLemmas.{loop_shaped, loop_spelled}
use Rattle.ts_item_forms.proofs.write.loop_bytes.Goals as goal

pub write_body-requires-clause-shaped : goal.write_body-requires-clause-shaped
write_body-requires-clause-shaped c = loop_shaped [] (item_page c.args.layout) (body_held c.args.body.now) c.requires.shaped

pub returns : goal.returns
returns c = c.in_ok-bytes.ensures ∙ loop_spelled [] (item_page c.args.layout) (body_held c.args.body.now)

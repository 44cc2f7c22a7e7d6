use Rattle.std.proofs.Common.{map, ap, ◌∙◌}
use Rattle.ts_fields.specs.Bodies.{item_held}
use Rattle.ts_fields.specs.Layout.{held, rows_of}
use Rattle.ts_jtree.specs.Shown.{are_shown}
use Rattle.ts_json_descr.proofs.showing.item_json.Goals as goal

pub element_json-requires : goal.element_json-requires
element_json-requires c =
    ap (λ vs. are_shown (rows_of c.args.layout.rows.now) (map held vs)) c.deref.ensures.value
    ∙ c.fit_is_shown.ensures (rows_of c.args.layout.rows.now) (item_held c.args.item.now) c.requires

pub returns : goal.returns
returns c = rw c.deref.ensures.value at c.element_json.ensures

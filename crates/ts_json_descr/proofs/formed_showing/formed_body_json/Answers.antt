use Rattle.std.proofs.Common.{map, ap, ◌∙◌}
use Rattle.ts_fields.specs.Layout.{held, rows_of}
use Rattle.ts_jtree.specs.Shown.{are_shown}
use Rattle.ts_json_descr.proofs.formed_showing.formed_body_json.Goals as goal

pub element_json-requires : goal.element_json-requires
element_json-requires c =
    ap (λ vs. are_shown (rows_of c.args.layout.now.head.now) (map held vs)) c.deref-2.ensures.value
    ∙ c.fit_is_shown.ensures (rows_of c.args.layout.now.head.now) (map held c.args.body.now.head.items) c.requires.fits

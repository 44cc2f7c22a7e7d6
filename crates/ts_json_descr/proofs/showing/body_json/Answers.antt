use Rattle.std.proofs.Common.{map, ap, ◌∙◌}
use Rattle.ts_fields.specs.Bodies.{page, body_held, items_fit}
use Rattle.ts_fields.specs.Fitting.{fits}
use Rattle.ts_fields.specs.Layout.{held, rows_of}
use Rattle.ts_jtree.specs.Shown.{are_shown}
use Rattle.ts_json_descr.proofs.StepLemmas.{both}
use Rattle.ts_json_descr.proofs.showing.body_json.Goals as goal

pub element_json-requires : goal.element_json-requires
element_json-requires c =
    let p = page c.args.layout.now in
    let h = body_held c.args.body.now in
    let fit = (both (fits p.head h.head) (items_fit p.items h.items) c.requires).0 in
    ap (λ vs. are_shown (rows_of c.args.layout.now.head.now) (map held vs)) c.deref-2.ensures.value
    ∙ c.fit_is_shown.ensures p.head h.head fit

pub returns : goal.returns
returns c = rw (c.deref-2.ensures.value, c.in_ok-nodes.ensures, c.deref.ensures.value) at c.element_json.ensures

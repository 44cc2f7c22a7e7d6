use Rattle.std.proofs.Common.{map, ap}
use Rattle.ts_fields.specs.Bodies.{Holding, page, body_held}
use Rattle.ts_descr.proofs.TypedLemmas.{fields_fit}
use Rattle.ts_descr.proofs.typed.write_fields.Goals as goal

pub write_by_page-requires-clause-shaped : goal.write_by_page-requires-clause-shaped
write_by_page-requires-clause-shaped g c =
    let p = page c.args.layout.now in
    let h : Holding = body_held (record { head = c.in_ok-values.field-0; items = c.new.result }) in
    c.fit_page_is_shaped.ensures.uncounted p h
    (fields_fit p g.T.Fields.rows h c.requires.rows c.requires.alone (ap (map _) c.new.ensures.items) c.in_ok-values.ensures.fit)

use Rattle.std.proofs.Common.{◌≡◌, true, map, sym, ap, subst}
use Rattle.std.specs.Prelude.{IfOk}
use Rattle.ts_fields.specs.Bodies.{Holding, page, body_held, page_fits_uncounted}
use Rattle.ts_fields.specs.Layout.{held}
use Rattle.ts_descr.specs.Descriptors.{Writes, IsReadBack, items_alone}
use Rattle.ts_descr.proofs.TypedLemmas.{items_fit_alone, held_alone}
use Rattle.ts_descr.proofs.typed.write_items.Goals as goal

pub write_by_page-requires-clause-shaped : goal.write_by_page-requires-clause-shaped
write_by_page-requires-clause-shaped g c =
    let p = page c.args.layout.now in
    let h : Holding = body_held (record { head = c.new.result; items = c.in_ok-items.items }) in
    c.fit_page_is_shaped.ensures.uncounted p h
    (items_fit_alone p g.T.Fields.rows h c.requires.alone (ap (map held) c.new.ensures.items) c.requires.rows c.in_ok-items.ensures.fit)

pub returns-clause-written : goal.returns-clause-written
returns-clause-written g c =
    let h : Holding = body_held (record { head = c.new.result; items = c.in_ok-items.items }) in
    let same : items_alone (map g.T.Fields.fields c.args.items.now) ≡ h = held_alone h (map g.T.Fields.fields c.args.items.now) (ap (map held) c.new.ensures.items) (sym c.in_ok-items.ensures.held) in
    let P : Holding → Type 0 = λ x. Writes (page c.args.layout.now) x c.write_by_page.result in
    subst P (sym same) c.write_by_page.ensures.written

pub returns-clause-back : goal.returns-clause-back
returns-clause-back g c = λ pages found exact.
    let p = page c.args.layout.now in
    let h : Holding = body_held (record { head = c.new.result; items = c.in_ok-items.items }) in
    let none = ap (map held) c.new.ensures.items in
    let same : items_alone (map g.T.Fields.fields c.args.items.now) ≡ h = held_alone h (map g.T.Fields.fields c.args.items.now) none (sym c.in_ok-items.ensures.held) in
    let fit : page_fits_uncounted p h ≡ true =
    items_fit_alone p g.T.Fields.rows h c.requires.alone none c.requires.rows c.in_ok-items.ensures.fit in
    let P : Holding → Type 0 = λ x. IfOk c.write_by_page.result (λ d. IsReadBack pages (record { tag = p.tag; holding = x }) d) in
    subst P (sym same) (c.write_by_page.ensures.back pages found exact fit)

use Rattle.std.proofs.Common.{◌≡◌, true, sym, ap, ◌∙◌, subst}
use Rattle.std.specs.Prelude.{Option, Some, option_map, map, IfSome}
use Rattle.ts_fields.specs.declared.layout.Body.{Body}
use Rattle.ts_fields.specs.Bodies.{page, page_fits, body_held, item_held}
use Rattle.ts_descr.proofs.TypedLemmas.{typed_so, no_head}
use Rattle.ts_descr.proofs.typed.items_by_page.Goals as goal

pub returns : goal.returns
returns g c =
    let p = page c.args.layout.now in
    let P : Option Body → Type 0 = λ o. IfSome o (λ b. page_fits p (body_held b) ≡ true) in
    let fit : page_fits p (body_held c.in-Some.body) ≡ true = subst P c.in-Some.is c.in_ok-body.ensures.fits in
    typed_so c.in_ok-values.values _ (body_held c.in-Some.body) _
    (c.in_ok-values.ensures ∙ ap (λ xs. Some (map item_held xs)) c.deref.ensures.value)
    (no_head p (body_held c.in-Some.body) c.requires.alone fit)
    (ap (option_map body_held) (sym c.in-Some.is) ∙ c.in_ok-body.ensures.read)

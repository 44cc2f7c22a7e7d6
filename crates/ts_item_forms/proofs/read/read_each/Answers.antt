use Rattle.std.proofs.Common.{◌≡◌, ◌++◌, ◌∷◌, [], map, sym, ◌∙◌}
use Rattle.std.proofs.lemmas.Result.{err_from_is_err_and}
use Rattle.std.proofs.lemmas.List.{map_push}
use Rattle.ts_item_forms.specs.ItemForms as forms
use Rattle.ts_item_forms.specs.ItemForms.{item_held}
use Rattle.ts_item_forms.proofs.SoundLemmas.{takes_some}
use Rattle.ts_item_forms.proofs.TakesLemmas.{items_done, items_go_on, items_stop}
use Rattle.ts_item_forms.proofs.read.read_each.Goals as goal

pub returns-in_err-item : goal.returns-in_err-item
returns-in_err-item c =
    let f = forms.form c.args.form.now in
    let p = err_from_is_err_and c.from_residual.result c.from_residual.ensures.1 in
    rw (p.1, p.2) (items_stop c.in_err-item.field-0.0 (map (item_held f) c.loop-rest.items.items) f c.loop-rest.rest _ (λ h. c.loop-rest-test.true (c.len.ensures.left ∙ h)) c.loop-rest.invariant c.in_err-item.ensures)

pub loop-rest-smaller : goal.loop-rest-smaller
loop-rest-smaller c =
    let f = forms.form c.args.form.now in
    c.item_takes_bits.ensures f c.loop-rest.rest (item_held f c.in_ok-item.item, c.in_ok-item.after) (takes_some f c.requires) c.in_ok-item.ensures

pub loop-rest-preserved : goal.loop-rest-preserved
loop-rest-preserved c =
    let f = forms.form c.args.form.now in
    let one = item_held f c.in_ok-item.item in
    let e : map (item_held f) c.push.new.self.items ≡ map (item_held f) c.loop-rest.items.items ++ one ∷ [] = rw c.in_ok-push.ensures.items (map_push (item_held f) c.loop-rest.items.items _) in
    rw e (items_go_on (map (item_held f) c.loop-rest.items.items) f c.loop-rest.rest one c.in_ok-item.after _ (λ from x is. c.item_takes_bits.ensures f from x (takes_some f c.requires) is) c.in_ok-item.ensures c.loop-rest.invariant)

pub returns : goal.returns
returns c =
    let f = forms.form c.args.form.now in
    items_done (map (item_held f) c.loop-rest.items.items) f c.loop-rest.rest _ (sym c.len.ensures.left ∙ c.loop-rest-test.false) c.loop-rest.invariant

use Rattle.std.proofs.Common.{◌≡◌, ◌++◌, ◌∷◌, [], map, arith}
use Rattle.std.proofs.lemmas.Result.{err_from_is_err_and}
use Rattle.std.proofs.lemmas.List.{map_push}
use Rattle.ts_item_forms.specs.ItemForms as forms
use Rattle.ts_item_forms.specs.ItemForms.{item_held}
use Rattle.ts_json_descr.proofs.FormedLemmas.{items_go_on, items_stop, items_done}
use Rattle.ts_json_descr.proofs.formed_reading.read_formed_items.Goals as goal

pub returns-in_err-item : goal.returns-in_err-item
returns-in_err-item c =
    let p = err_from_is_err_and c.from_residual.result c.from_residual.ensures.1 in
    rw (p.1, p.2) (items_stop c.in_err-item.field-0.0 (forms.form c.args.form.now) c.loop-value.value-index (map (item_held (forms.form c.args.form.now)) c.loop-value.items.items) c.args.nodes.now c.value-item.result _ c.loop-value-test.true c.value-item.is c.loop-value.invariant.read
    (rw c.loop-value.invariant.same at c.in_err-item.ensures))

pub loop-value-preserved : goal.loop-value-preserved
loop-value-preserved c =
    let one = item_held (forms.form c.args.form.now) c.in_ok-item.item in
    let e : map (item_held (forms.form c.args.form.now)) c.push.new.self.items ≡ map (item_held (forms.form c.args.form.now)) c.loop-value.items.items ++ one ∷ [] = rw c.in_ok-push.ensures.items (map_push (item_held (forms.form c.args.form.now)) c.loop-value.items.items _) in
    record {
      same = omega (arith, c.loop-value.invariant.same);
      read = rw e (items_go_on (forms.form c.args.form.now) c.loop-value.value-index (map (item_held (forms.form c.args.form.now)) c.loop-value.items.items) c.args.nodes.now c.value-item.result one _ c.loop-value-test.true c.value-item.is (rw c.loop-value.invariant.same at c.in_ok-item.ensures) c.loop-value.invariant.read);
    }

pub returns : goal.returns
returns c = items_done (forms.form c.args.form.now) c.loop-value.value-index (map (item_held (forms.form c.args.form.now)) c.loop-value.items.items) c.args.nodes.now _ c.loop-value-test.false c.loop-value.invariant.read

use Rattle.std.proofs.Common.{◌≡◌, ◌++◌, ◌∷◌, [], map, arith}
use Rattle.std.proofs.lemmas.Result.{err_from_is_err_and}
use Rattle.std.proofs.lemmas.List.{map_push}
use Rattle.ts_fields.specs.Bodies.{item_held, item_page}
use Rattle.ts_fields.specs.Layout.{held}
use Rattle.ts_json_descr.proofs.ItemLemmas.{items_go_on, items_stop, items_done}
use Rattle.ts_json_descr.proofs.reading.read_items.Goals as goal

pub returns-in_err-values : goal.returns-in_err-values
returns-in_err-values c =
    let p = err_from_is_err_and c.from_residual.result c.from_residual.ensures.1 in
    rw (p.1, p.2) (items_stop c.in_err-values.field-0.0 (item_page c.args.layout) c.loop-value.value-index (map item_held c.loop-value.items.items) c.args.nodes.now c.value-item.result _ c.loop-value-test.true c.value-item.is c.loop-value.invariant.read
    (rw c.loop-value.invariant.same at c.in_err-values.ensures))

pub loop-value-preserved : goal.loop-value-preserved
loop-value-preserved c =
    let one = map held c.in_ok-values.values.items in
    let e : map item_held c.push.new.self.items ≡ map item_held c.loop-value.items.items ++ one ∷ [] = rw c.in_ok-push.ensures.items (map_push item_held c.loop-value.items.items _) in
    record {
      same = omega (arith, c.loop-value.invariant.same);
      read = rw e (items_go_on (item_page c.args.layout) c.loop-value.value-index (map item_held c.loop-value.items.items) c.args.nodes.now c.value-item.result one _ c.loop-value-test.true c.value-item.is (rw c.loop-value.invariant.same at c.in_ok-values.ensures) c.loop-value.invariant.read);
    }

pub returns : goal.returns
returns c = items_done (item_page c.args.layout) c.loop-value.value-index (map item_held c.loop-value.items.items) c.args.nodes.now _ c.loop-value-test.false c.loop-value.invariant.read

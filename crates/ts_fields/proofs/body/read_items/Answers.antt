use Rattle.std.proofs.Common.{◌≡◌, ◌++◌, ◌∷◌, [], map, sym, ◌∙◌}
use Rattle.std.proofs.lemmas.Result.{err_from_is_err_and}
use Rattle.std.proofs.lemmas.List.{map_push}
use Rattle.ts_fields.specs.Bodies.{item_held}
use Rattle.ts_fields.specs.Layout.{rows_of, held}
use Rattle.ts_fields.proofs.ItemLemmas.{items_go_on, items_stop, items_done, item_takes}
use Rattle.ts_fields.proofs.LengthLemmas.{takes_bits}
use Rattle.ts_fields.proofs.body.read_items.Goals as goal

pub returns-in_err-values : goal.returns-in_err-values
returns-in_err-values c =
    let p = err_from_is_err_and c.from_residual.result c.from_residual.ensures.1 in
    rw (p.1, p.2) (items_stop c.in_err-values.field-0.0 (map item_held c.loop-rest.items.items) (rows_of c.args.rows.now) c.loop-rest.rest _ (λ h. c.loop-rest-test.true (c.len.ensures.left ∙ h)) c.loop-rest.invariant c.in_err-values.ensures)

pub loop-rest-smaller : goal.loop-rest-smaller
loop-rest-smaller c = takes_bits (rows_of c.args.rows.now) c.loop-rest.rest (map held c.in_ok-values.values.items) c.in_ok-values.after (item_takes (rows_of c.args.rows.now) c.requires) c.in_ok-values.ensures

pub loop-rest-preserved : goal.loop-rest-preserved
loop-rest-preserved c =
    let n = c.in_ok-values.values in
    let e : map item_held c.push.new.self.items ≡ map item_held c.loop-rest.items.items ++ map held n.items ∷ [] = rw c.in_ok-push.ensures.items (map_push item_held c.loop-rest.items.items _) in
    rw e (items_go_on (map item_held c.loop-rest.items.items) (rows_of c.args.rows.now) c.loop-rest.rest (map held n.items) c.in_ok-values.after _ (item_takes (rows_of c.args.rows.now) c.requires) c.in_ok-values.ensures c.loop-rest.invariant)

pub returns : goal.returns
returns c = items_done (map item_held c.loop-rest.items.items) (rows_of c.args.rows.now) c.loop-rest.rest _ (sym c.len.ensures.left ∙ c.loop-rest-test.false) c.loop-rest.invariant

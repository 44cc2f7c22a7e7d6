use Rattle.std.proofs.Common.{◌≡◌, ◌++◌, ◌∷◌, [], map, sym, ◌∙◌}
use Rattle.std.proofs.lemmas.Result.{err_from_is_err_and}
use Rattle.std.proofs.lemmas.List.{map_push}
use Rattle.ts_table_rows.specs.TablePages.{item_page}
use Rattle.ts_table_rows.specs.TableValues.{item_held}
use Rattle.ts_table_rows.proofs.ItemLemmas.{items_go_on, items_stop, items_done}
use Rattle.ts_table_rows.proofs.read_item.read_items.Goals as goal

pub returns-in_err-item : goal.returns-in_err-item
returns-in_err-item c =
    let p = err_from_is_err_and c.from_residual.result c.from_residual.ensures.1 in
    rw (p.1, p.2)
    (items_stop c.in_err-item.field-0.0 c.args.one_zero (map item_held c.loop-rest.items.items) (item_page c.args.form) c.loop-rest.now c.args.behind c.loop-rest.rest _
    (λ h. c.loop-rest-test.true (c.len.ensures.left ∙ h)) c.loop-rest.invariant c.in_err-item.ensures)

pub loop-rest-smaller : goal.loop-rest-smaller
loop-rest-smaller c =
    c.items_take_bits.ensures c.args.one_zero (item_page c.args.form) c.loop-rest.now c.args.behind c.loop-rest.rest (item_held c.in_ok-item.item) c.in_ok-item.zero c.in_ok-item.after c.requires.sound c.in_ok-item.ensures

pub loop-rest-preserved : goal.loop-rest-preserved
loop-rest-preserved c =
    let e : map item_held c.push.new.self.items ≡ map item_held c.loop-rest.items.items ++ item_held c.in_ok-item.item ∷ [] =
    rw c.in_ok-push.ensures.items (map_push item_held c.loop-rest.items.items c.in_ok-item.item) in
    rw e
    (items_go_on c.args.one_zero (map item_held c.loop-rest.items.items) (item_page c.args.form) c.loop-rest.now c.args.behind c.loop-rest.rest (item_held c.in_ok-item.item) c.in_ok-item.zero c.in_ok-item.after _
    (λ seen from item now rest is. c.items_take_bits.ensures c.args.one_zero (item_page c.args.form) seen c.args.behind from item now rest c.requires.sound is)
    c.in_ok-item.ensures c.loop-rest.invariant)

pub returns : goal.returns
returns c =
    items_done c.args.one_zero (map item_held c.loop-rest.items.items) (item_page c.args.form) c.loop-rest.now c.args.behind c.loop-rest.rest _ (sym c.len.ensures.left ∙ c.loop-rest-test.false) c.loop-rest.invariant

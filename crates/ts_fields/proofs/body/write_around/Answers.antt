use Rattle.std.proofs.Common.{take, drop, ap, sym, ◌∙◌}
use Rattle.std.specs.Prelude.{option_map}
use Rattle.ts_fields.specs.Layout.{rows_of}
use Rattle.ts_fields.specs.Bodies.{item_rows, item_page, held_by}
use Rattle.ts_fields.proofs.LoopLemmas.{around_written}
use Rattle.ts_fields.proofs.body.write_around.Goals as goal

pub returns : goal.returns
returns c =
    around_written (take c.args.place (rows_of c.args.layout.now.head.now)) (item_rows (option_map item_page c.args.layout.now.items)) (drop c.args.place (rows_of c.args.layout.now.head.now)) c.args.body.now c.args.out.now c.write_rows.new.out c.write_loop.new.out c.write_rows-2.new.out c.deref.result.now c.deref-2.result.now c.values_from.result.now c.held_count.result
    _ _ _ c.deref.ensures.value c.deref-2.ensures.value (c.values_from.ensures ∙ ap (drop c.held_count.result) (c.deref-3.ensures.value ∙ sym c.deref.ensures.value)) (c.held_count.ensures.count ∙ ap held_by c.split_rows.ensures.front) c.split_rows.ensures.front c.item_rows.ensures c.split_rows.ensures.back
    c.in_ok-write_rows.ensures c.in_ok-write_loop.ensures c.in_ok-write_rows-2.ensures

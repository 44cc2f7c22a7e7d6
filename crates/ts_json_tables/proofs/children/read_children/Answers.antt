use Rattle.std.proofs.Common.{◌∙◌, map, ap, arith}
use Rattle.std.specs.Prelude.{Ok}
use Rattle.std.proofs.lemmas.Result.{err_from_is_err_and}
use Rattle.ts_table_rows.specs.TablePages.{table_page}
use Rattle.ts_table_rows.specs.TableValues.{item_held}
use Rattle.ts_json_tables.specs.TableReading.{child_thing, read_child}
use Rattle.ts_json_tables.proofs.ChildLemmas.{behind, after_more, after_none}
use Rattle.ts_json_tables.proofs.EachLemmas.{each_done, each_goes_on, each_stops}
use Rattle.ts_json_tables.proofs.children.read_children.Goals as goal

pub returns-in_err-child : goal.returns-in_err-child
returns-in_err-child c =
    let p = err_from_is_err_and c.from_residual.result c.from_residual.ensures.1 in
    rw (p.1, p.2) (each_stops c.in_err-child.field-0.0 (read_child (table_page c.args.layout.now)) c.loop-value.value-index c.args.nodes.now c.value-item.result (behind c.loop-value.children.descriptors.items (map item_held c.loop-value.children.items.items)) _ c.loop-value-test.true c.value-item.is c.loop-value.invariant.read
    (rw c.loop-value.invariant.same at c.in_err-child.ensures))

pub loop-value-preserved : goal.loop-value-preserved
loop-value-preserved c = record {
  same = omega (arith, c.loop-value.invariant.same);
  read =
      each_goes_on (read_child (table_page c.args.layout.now)) c.loop-value.value-index c.args.nodes.now c.value-item.result (child_thing c.in_ok-child.child) (behind c.loop-value.children.descriptors.items (map item_held c.loop-value.children.items.items)) (behind c.add_child.new.children.descriptors.items (map item_held c.add_child.new.children.items.items)) _ c.loop-value-test.true c.value-item.is
      (rw c.loop-value.invariant.same at c.in_ok-child.ensures)
      (after_more c.loop-value.children.descriptors.items c.add_child.new.children.descriptors.items (map item_held c.loop-value.children.items.items) (map item_held c.add_child.new.children.items.items) (child_thing c.in_ok-child.child) c.in_ok-add_child.ensures.own c.in_ok-add_child.ensures.items)
      c.loop-value.invariant.read;
}

pub returns : goal.returns
returns c =
    each_done (read_child (table_page c.args.layout.now)) c.loop-value.value-index c.args.nodes.now (behind c.loop-value.children.descriptors.items (map item_held c.loop-value.children.items.items)) _ c.loop-value-test.false c.loop-value.invariant.read
    ∙ ap Ok (after_none c.loop-value.children.descriptors.items (map item_held c.loop-value.children.items.items))

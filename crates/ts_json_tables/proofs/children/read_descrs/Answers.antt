use Rattle.std.proofs.Common.{◌∙◌, ◌++◌, ◌∷◌, [], ap, append_assoc, append-nil, arith, sym}
use Rattle.std.specs.Prelude.{Ok}
use Rattle.std.proofs.lemmas.Result.{err_from_is_err_and}
use Rattle.serde_json.specs.View.{items_view}
use Rattle.ts_json_tables.specs.TableReading.{read_descr, read_each}
use Rattle.ts_json_tables.proofs.EachLemmas.{each_done, each_goes_on, each_stops, itself_done, itself_stops}
use Rattle.ts_json_tables.proofs.children.read_descrs.Goals as goal

pub returns-in_err-descriptor : goal.returns-in_err-descriptor
returns-in_err-descriptor c =
    let p = err_from_is_err_and c.from_residual.result c.from_residual.ensures.1 in
    rw (p.1, p.2) (itself_stops c.in_err-descriptor.field-0.0 (read_each read_descr 0 (items_view c.args.nodes.now))
    (each_stops c.in_err-descriptor.field-0.0 read_descr c.loop-value.value-index c.args.nodes.now c.value-item.result (λ xs. c.loop-value.descriptors.items ++ xs) _ c.loop-value-test.true c.value-item.is c.loop-value.invariant.read
    (rw c.loop-value.invariant.same at c.in_err-descriptor.ensures)))

pub loop-value-preserved : goal.loop-value-preserved
loop-value-preserved c = record {
  same = omega (arith, c.loop-value.invariant.same);
  read =
      rw c.in_ok-push.ensures.items (each_goes_on read_descr c.loop-value.value-index c.args.nodes.now c.value-item.result c.in_ok-descriptor.descriptor (λ xs. c.loop-value.descriptors.items ++ xs) (λ xs. (c.loop-value.descriptors.items ++ c.in_ok-descriptor.descriptor ∷ []) ++ xs) _ c.loop-value-test.true c.value-item.is
      (rw c.loop-value.invariant.same at c.in_ok-descriptor.ensures)
      (λ xs. sym (append_assoc c.loop-value.descriptors.items (c.in_ok-descriptor.descriptor ∷ []) xs)) c.loop-value.invariant.read);
}

pub returns : goal.returns
returns c =
    itself_done (read_each read_descr 0 (items_view c.args.nodes.now)) c.loop-value.descriptors.items
    (each_done read_descr c.loop-value.value-index c.args.nodes.now (λ xs. c.loop-value.descriptors.items ++ xs) _ c.loop-value-test.false c.loop-value.invariant.read
    ∙ ap Ok (append-nil c.loop-value.descriptors.items))

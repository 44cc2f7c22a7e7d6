use Rattle.std.proofs.Common.{◌≡◌, ◌∙◌, ◌++◌, ◌∷◌, [], ℕ, List, map, ap, append_assoc, append-nil, arith, sym}
use Rattle.std.specs.Prelude.{Ok}
use Rattle.std.proofs.lemmas.List.{map_push}
use Rattle.std.proofs.lemmas.Result.{err_from_is_err_and}
use Rattle.serde_json.specs.View.{items_view}
use Rattle.ts_json_tables.specs.TableReading.{read_each, read_section}
use Rattle.ts_json_tables.proofs.EachLemmas.{each_done, each_goes_on, each_stops, itself_done, itself_stops}
use Rattle.ts_json_tables.proofs.children.read_payloads.Goals as goal

pub returns-in_err-payload : goal.returns-in_err-payload
returns-in_err-payload c =
    let p = err_from_is_err_and c.from_residual.result c.from_residual.ensures.1 in
    rw (p.1, p.2) (itself_stops c.in_err-payload.field-0.0 (read_each read_section 0 (items_view c.args.nodes.now))
    (each_stops c.in_err-payload.field-0.0 read_section c.loop-value.value-index c.args.nodes.now c.value-item.result (λ xs. map (λ row. row.items) c.loop-value.payloads.items ++ xs) _ c.loop-value-test.true c.value-item.is c.loop-value.invariant.read
    (rw c.loop-value.invariant.same at c.in_err-payload.ensures)))

pub loop-value-preserved : goal.loop-value-preserved
loop-value-preserved c =
    let front : List (List ℕ) = map (λ row. row.items) c.loop-value.payloads.items in
    let one : List ℕ = c.in_ok-payload.payload.items in
    let e : map (λ row. row.items) c.push.new.self.items ≡ front ++ one ∷ [] = rw c.in_ok-push.ensures.items (map_push (λ row. row.items) c.loop-value.payloads.items _) in
    record {
      same = omega (arith, c.loop-value.invariant.same);
      read =
          rw e (each_goes_on read_section c.loop-value.value-index c.args.nodes.now c.value-item.result one (λ xs. front ++ xs) (λ xs. (front ++ one ∷ []) ++ xs) _ c.loop-value-test.true c.value-item.is
          (rw c.loop-value.invariant.same at c.in_ok-payload.ensures)
          (λ xs. sym (append_assoc front (one ∷ []) xs)) c.loop-value.invariant.read);
    }

pub returns : goal.returns
returns c =
    let front : List (List ℕ) = map (λ row. row.items) c.loop-value.payloads.items in
    itself_done (read_each read_section 0 (items_view c.args.nodes.now)) front
    (each_done read_section c.loop-value.value-index c.args.nodes.now (λ xs. front ++ xs) _ c.loop-value-test.false c.loop-value.invariant.read
    ∙ ap Ok (append-nil front))

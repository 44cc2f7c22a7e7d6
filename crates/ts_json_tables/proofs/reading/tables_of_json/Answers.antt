use Rattle.std.proofs.Common.{◌≡◌, ◌∙◌, ◌++◌, ◌∷◌, [], List, map, ap, append_assoc, append-nil, arith, sym}
use Rattle.std.specs.Prelude.{Ok}
use Rattle.std.proofs.lemmas.List.{map_push}
use Rattle.std.proofs.lemmas.List.Elements.{All-push}
use Rattle.std.proofs.lemmas.Result.{err_from_is_err_and}
use Rattle.serde_json.specs.View.{items_view}
use Rattle.ts_json_tables.specs.HeldTables.{TableValue, table_value}
use Rattle.ts_json_tables.specs.ValidTables.{IsTable}
use Rattle.ts_json_tables.specs.TableReading.{read_each, table_read}
use Rattle.ts_json_tables.proofs.EachLemmas.{each_done, each_goes_on, each_stops, itself_done, itself_stops}
use Rattle.ts_json_tables.proofs.reading.tables_of_json.Goals as goal

pub returns-in_err-table-clause-read : goal.returns-in_err-table-clause-read
returns-in_err-table-clause-read c =
    let p = err_from_is_err_and c.from_residual.result c.from_residual.ensures.1 in
    rw (p.1, p.2) (itself_stops c.in_err-table.field-0.0 (read_each table_read 0 (items_view c.args.nodes.now))
    (each_stops c.in_err-table.field-0.0 table_read c.loop-value.value-index c.args.nodes.now c.value-item.result (λ xs. map table_value c.loop-value.tables.items ++ xs) _ c.loop-value-test.true c.value-item.is c.loop-value.invariant.read
    (rw c.loop-value.invariant.same at c.in_err-table.ensures.read)))

pub loop-value-preserved : goal.loop-value-preserved
loop-value-preserved c =
    let front : List TableValue = map table_value c.loop-value.tables.items in
    let one : TableValue = table_value c.in_ok-table.table in
    let e : map table_value c.push.new.self.items ≡ front ++ one ∷ [] = rw c.in_ok-push.ensures.items (map_push table_value c.loop-value.tables.items _) in
    record {
      same = omega (arith, c.loop-value.invariant.same);
      read =
          rw e (each_goes_on table_read c.loop-value.value-index c.args.nodes.now c.value-item.result one (λ xs. front ++ xs) (λ xs. (front ++ one ∷ []) ++ xs) _ c.loop-value-test.true c.value-item.is
          (rw c.loop-value.invariant.same at c.in_ok-table.ensures.read)
          (λ xs. sym (append_assoc front (one ∷ []) xs)) c.loop-value.invariant.read);
      valid = rw c.in_ok-push.ensures.items (All-push (λ t. IsTable (table_value t)) c.loop-value.tables.items c.in_ok-table.table c.loop-value.invariant.valid c.in_ok-table.ensures.valid);
    }

pub returns-clause-read : goal.returns-clause-read
returns-clause-read c =
    let front : List TableValue = map table_value c.loop-value.tables.items in
    itself_done (read_each table_read 0 (items_view c.args.nodes.now)) front
    (each_done table_read c.loop-value.value-index c.args.nodes.now (λ xs. front ++ xs) _ c.loop-value-test.false c.loop-value.invariant.read
    ∙ ap Ok (append-nil front))

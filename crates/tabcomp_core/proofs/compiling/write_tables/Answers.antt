use Rattle.std.proofs.Common.{◌∙◌, ap, map, arith, refl, subst}
use Rattle.std.specs.Prelude.{Err}
use Rattle.ts_json_tables.specs.RunTables.{sections_of_table}
use Rattle.std.proofs.lemmas.Result.{err_from_is_err_and}
use Rattle.tabcomp_core.proofs.JoinLemmas.{table_goes_on, table_stops, tables_begin, tables_done, with_bytes}
use Rattle.ts_json_tables.specs.HeldTables.{table_value}
use Rattle.tabcomp_core.specs.Compiling.{TakesTable, tables_bytes}
use Rattle.tabcomp_core.proofs.compiling.write_tables.Goals as goal

pub loop-table-init : goal.loop-table-init
loop-table-init c = record {
  same = refl;
  written = ap (λ b. with_bytes b (tables_bytes 0 (map table_value c.args.tables.now))) c.new-bytes.ensures.items ∙ tables_begin (tables_bytes 0 (map table_value c.args.tables.now));
}

pub returns-in_err-push_table : goal.returns-in_err-push_table
returns-in_err-push_table c =
    let p = err_from_is_err_and c.from_residual.result c.from_residual.ensures.1 in
    rw (p.1, p.2) (table_stops c.args.tables.now c.loop-table.table-index c.table-item.result c.loop-table.bytes.items c.push_table.new.bytes.items _ c.in_err-push_table.field-0.0 c.loop-table-test.true c.table-item.is (subst (λ n. TakesTable n c.loop-table.bytes.items c.push_table.new.bytes.items (sections_of_table (table_value c.table-item.result)) (Err c.in_err-push_table.field-0.0)) c.loop-table.invariant.same c.in_err-push_table.ensures) c.loop-table.invariant.written)

pub loop-table-preserved : goal.loop-table-preserved
loop-table-preserved c =
    let takes = c.in_ok-push_table.ensures in
    record {
      same = omega (arith, c.loop-table.invariant.same);
      written = table_goes_on c.args.tables.now c.loop-table.table-index c.table-item.result c.loop-table.bytes.items c.push_table.new.bytes.items _ c.loop-table-test.true c.table-item.is takes.0 takes.1 takes.2 c.loop-table.invariant.written;
    }

pub returns : goal.returns
returns c = tables_done c.args.tables.now c.loop-table.table-index c.loop-table.bytes.items _ c.loop-table-test.false c.loop-table.invariant.written

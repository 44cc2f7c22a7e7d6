use Rattle.std.proofs.Common.{◌≡◌, drop, map}
use Rattle.ts_json_tables.specs.HeldTables.{table_value}
use Rattle.tabcomp_core.specs.Compiling.{tables_bytes}
use Rattle.tabcomp_core.proofs.JoinLemmas.{with_bytes}
use Rattle.tabcomp_core.proofs.compiling.write_tables.Given as goal

abbrev pub invariant-loop-table : goal.invariant-loop-table
invariant-loop-table l = record {
  same : l.place ≡ l.table-index;
  written : with_bytes l.bytes.items (tables_bytes l.table-index (map table_value (drop l.table-index l.tables))) ≡ tables_bytes 0 (map table_value l.tables);
}

use Rattle.std.proofs.Common.{◌≡◌, ◌++◌, drop, map}
use Rattle.std.specs.Prelude.{All}
use Rattle.serde_json.specs.View.{items_view}
use Rattle.ts_json_tables.specs.HeldTables.{table_value}
use Rattle.ts_json_tables.specs.ValidTables.{IsTable}
use Rattle.ts_json_tables.specs.TableReading.{read_each, table_read}
use Rattle.ts_json_tables.proofs.EachLemmas.{made_of}
use Rattle.ts_json_tables.proofs.reading.tables_of_json.Given as goal

abbrev pub invariant-loop-value : goal.invariant-loop-value
invariant-loop-value l = record {
  same : l.place ≡ l.value-index;
  read : made_of (read_each table_read l.value-index (items_view (drop l.value-index l.nodes))) (λ xs. map table_value l.tables.items ++ xs) ≡ made_of (read_each table_read 0 (items_view l.nodes)) (λ xs. xs);
  valid : All (λ t. IsTable (table_value t)) l.tables.items;
}

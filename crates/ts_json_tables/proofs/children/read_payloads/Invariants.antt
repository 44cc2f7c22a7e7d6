use Rattle.std.proofs.Common.{◌≡◌, ◌++◌, drop, map}
use Rattle.serde_json.specs.View.{items_view}
use Rattle.ts_json_tables.specs.TableReading.{read_each, read_section}
use Rattle.ts_json_tables.proofs.EachLemmas.{made_of}
use Rattle.ts_json_tables.proofs.children.read_payloads.Given as goal

abbrev pub invariant-loop-value : goal.invariant-loop-value
invariant-loop-value l = record {
  same : l.place ≡ l.value-index;
  read : made_of (read_each read_section l.value-index (items_view (drop l.value-index l.nodes))) (λ xs. map (λ row. row.items) l.payloads.items ++ xs) ≡ made_of (read_each read_section 0 (items_view l.nodes)) (λ xs. xs);
}

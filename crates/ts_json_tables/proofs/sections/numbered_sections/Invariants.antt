use Rattle.std.proofs.Common.{◌≡◌, ◌+◌, ◌++◌, drop, map}
use Rattle.ts_json_tables.specs.HeldTables.{long_held}
use Rattle.ts_json_tables.specs.RunTables.{numbered}
use Rattle.ts_json_tables.proofs.sections.numbered_sections.Given as goal

abbrev pub invariant-loop-payload : goal.invariant-loop-payload
invariant-loop-payload l = record {
  same : l.number ≡ l.first + l.payload-index;
  left : l.sections.items ++ numbered (long_held l.table) l.last l.number (map (λ p. p.items) (drop l.payload-index l.table.payloads.items)) ≡ numbered (long_held l.table) l.last l.first (map (λ p. p.items) l.table.payloads.items);
}

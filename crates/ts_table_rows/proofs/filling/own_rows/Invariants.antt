use Rattle.std.proofs.Common.{◌≡◌, map, take}
use Rattle.std.specs.Prelude.{All}
use Rattle.ts_bits.specs.TaggedBody.{TaggedBody, IsDescriptor}
use Rattle.ts_table_rows.specs.FilledRows.{thing_view, own_row}
use Rattle.ts_table_rows.proofs.filling.own_rows.Given as goal

abbrev pub invariant-loop-descriptor : goal.invariant-loop-descriptor
invariant-loop-descriptor l = record {
  written : map thing_view l.rows.items ≡ map own_row (map (λ (d : TaggedBody). d) (take l.descriptor-index l.list));
  fit : All (λ d. IsDescriptor d) (map (λ (d : TaggedBody). d) (take l.descriptor-index l.list));
}

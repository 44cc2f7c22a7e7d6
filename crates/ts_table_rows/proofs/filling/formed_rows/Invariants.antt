use Rattle.std.proofs.Common.{◌≡◌, map, take, Some}
use Rattle.std.specs.Prelude.{All}
use Rattle.ts_bits.specs.TaggedBody.{IsDescriptor}
use Rattle.ts_table_rows.specs.FilledRows.{thing_view, item_kind_row}
use Rattle.ts_table_rows.specs.TablePages.{item_page}
use Rattle.ts_table_rows.specs.TableValues.{item_held}
use Rattle.ts_table_rows.proofs.filling.formed_rows.Given as goal

abbrev pub invariant-loop-item : goal.invariant-loop-item
invariant-loop-item l = record {
  written : map thing_view l.rows.items ≡ map (item_kind_row (Some (item_page l.form))) (map item_held (take l.item-index l.items));
  fit : All (λ x. All (λ d. IsDescriptor d) x.descriptors) (map item_held (take l.item-index l.items));
}

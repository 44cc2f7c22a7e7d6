use Rattle.std.proofs.Common.{◌≡◌, length, map}
use Rattle.ts_fields.specs.Bodies.{item_held, read_items}
use Rattle.ts_fields.specs.Layout.{rows_of}
use Rattle.ts_fields.proofs.ItemLemmas.{with_items}
use Rattle.ts_fields.proofs.body.read_items.Given as goal

abbrev pub invariant-loop-rest : goal.invariant-loop-rest
invariant-loop-rest l = with_items (map item_held l.items.items) (read_items (length l.rest) (rows_of l.rows) l.rest) ≡ read_items (length l.fn.from) (rows_of l.rows) l.fn.from

abbrev pub decreases-loop-rest : goal.decreases-loop-rest
decreases-loop-rest l = length l.rest

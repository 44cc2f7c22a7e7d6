use Rattle.std.proofs.Common.{◌≡◌, length, map}
use Rattle.ts_table_rows.specs.BodyReading as reading
use Rattle.ts_table_rows.specs.TablePages.{item_page}
use Rattle.ts_table_rows.specs.TableValues.{item_held}
use Rattle.ts_table_rows.proofs.ItemLemmas.{with_items}
use Rattle.ts_table_rows.proofs.read_item.read_items.Given as goal

abbrev pub invariant-loop-rest : goal.invariant-loop-rest
invariant-loop-rest l =
    with_items (map item_held l.items.items) (reading.read_items (length l.rest) l.one_zero (item_page l.form) l.now l.behind l.rest)
    ≡ reading.read_items (length l.fn.from) l.one_zero (item_page l.form) l.seen l.behind l.fn.from

abbrev pub decreases-loop-rest : goal.decreases-loop-rest
decreases-loop-rest l = length l.rest

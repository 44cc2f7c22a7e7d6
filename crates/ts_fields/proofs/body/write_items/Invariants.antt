use Rattle.std.proofs.Common.{◌≡◌, ◌++◌, take, map}
use Rattle.std.specs.List.{flat_map}
use Rattle.ts_fields.specs.Bodies.{item_held}
use Rattle.ts_fields.specs.Spelling.{spell_rows}
use Rattle.ts_fields.specs.Layout.{rows_of}
use Rattle.ts_fields.proofs.body.write_items.Given as goal

abbrev pub invariant-loop-item : goal.invariant-loop-item
invariant-loop-item l = l.out ≡ l.initial.out ++ flat_map (spell_rows (rows_of l.rows)) (map item_held (take l.item-index l.items))

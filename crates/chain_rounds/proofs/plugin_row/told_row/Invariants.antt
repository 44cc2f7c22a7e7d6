use Rattle.std.proofs.Common.{◌≡◌, ◌++◌, map}
use Rattle.std.specs.Vec.Iter.{into_iter_items}
use Rattle.chain_rounds.specs.Told.{told_by}
use Rattle.chain_rounds.proofs.plugin_row.told_row.Given as goal

abbrev pub invariant-loop-line : goal.invariant-loop-line
invariant-loop-line l = l.row.items ++ map (told_by l.fn.plugin) (into_iter_items l.line-iterator) ≡ map (told_by l.fn.plugin) l.fn.lines.items

use Rattle.std.proofs.Common.{◌≡◌, ◌++◌, drop, map}
use Rattle.ts_fields.specs.Layout.{held, rows_of}
use Rattle.ts_groups.specs.Groups.{chosen, groups_in}
use Rattle.ts_groups.proofs.group.chosen_rows.Given as goal

abbrev pub invariant-loop-group : goal.invariant-loop-group
invariant-loop-group l = rows_of l.rows.items ++ chosen (groups_in (drop l.group-index l.groups)) (map held l.values) ≡ rows_of l.front ++ chosen (groups_in l.groups) (map held l.values)

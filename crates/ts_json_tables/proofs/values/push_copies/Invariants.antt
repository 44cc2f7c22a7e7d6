use Rattle.std.proofs.Common.{◌≡◌, ◌++◌, take, map}
use Rattle.ts_fields.specs.Layout.{held}
use Rattle.ts_json_tables.proofs.values.push_copies.Given as goal

abbrev pub invariant-loop-value : goal.invariant-loop-value
invariant-loop-value l = map held l.values.items ≡ map held l.initial.values.items ++ map held (take l.value-index l.from)

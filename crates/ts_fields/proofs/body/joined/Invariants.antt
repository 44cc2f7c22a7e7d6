use Rattle.std.proofs.Common.{◌≡◌, ◌++◌}
use Rattle.ts_fields.proofs.body.joined.Given as goal

abbrev pub invariant-loop-value : goal.invariant-loop-value
invariant-loop-value l = l.values.items ≡ l.initial.values.items ++ l.yielded

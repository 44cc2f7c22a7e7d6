use Rattle.std.proofs.Common.{◌≡◌, ◌++◌}
use Rattle.ts_item_forms.proofs.read.joined_values.Given as goal

abbrev pub invariant-loop-value : goal.invariant-loop-value
invariant-loop-value l = l.values.items ≡ l.initial.values.items ++ l.yielded

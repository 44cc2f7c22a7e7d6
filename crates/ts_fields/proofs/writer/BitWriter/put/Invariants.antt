use Rattle.std.proofs.Common.{◌≡◌, ◌++◌, ◌-◌, ◌/◌, ◌^◌}
use Rattle.ts_fields.specs.Bits.{bits}
use Rattle.ts_fields.proofs.writer.BitWriter.put.Given as goal

abbrev pub invariant-loop-i : goal.invariant-loop-i
invariant-loop-i l = l.self ≡ l.initial.self ++ bits l.i (l.value / 2 ^ (l.count - l.i))

use Rattle.std.proofs.Common.{◌-◌, ◌/◌, ◌^◌}
use Rattle.ts_bit_rows.specs.BitRow.{SetsField}
use Rattle.ts_bits.proofs.row.put_bits.Given as goal

abbrev pub invariant-loop-i : goal.invariant-loop-i
invariant-loop-i l = SetsField l.initial.into l.into l.at l.i (l.value / 2 ^ (l.count - l.i))

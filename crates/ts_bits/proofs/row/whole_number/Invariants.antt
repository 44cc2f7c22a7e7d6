use Rattle.std.proofs.Common.{◌≡◌, ◌*◌}
use Rattle.ts_bit_rows.specs.BitRow.{field}
use Rattle.ts_bits.proofs.row.whole_number.Given as goal

abbrev pub invariant-loop-byte : goal.invariant-loop-byte
invariant-loop-byte l = l.number ≡ field l.row 0 (8 * l.byte-index)

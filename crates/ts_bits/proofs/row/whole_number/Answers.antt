use Rattle.std.proofs.Common.{sym, arith, get_or, ◌<◌}
use Rattle.ts_bit_rows.proofs.Fields.{field-zero}
use Rattle.ts_bit_rows.proofs.RowParts.{field-more_byte, field-below_bytes}
use Rattle.ts_bits.proofs.row.whole_number.Goals as goal

pub loop-byte-init : goal.loop-byte-init
loop-byte-init c = sym (field-zero c.args.row.now 0)

pub overflow_mul-number : goal.overflow_mul-number
overflow_mul-number c = omega (arith, field-below_bytes c.args.row.now c.loop-byte.byte-index 8 (omega arith))

pub overflow_add-number : goal.overflow_add-number
overflow_add-number c = omega (arith, field-below_bytes c.args.row.now c.loop-byte.byte-index 8 (omega arith))

pub loop-byte-preserved : goal.loop-byte-preserved
loop-byte-preserved c =
    let small : get_or c.args.row.now c.loop-byte.byte-index 0 < 256 = omega (arith, c.type_inv.row c.loop-byte.byte-index) in
    omega (arith, field-more_byte c.args.row.now c.loop-byte.byte-index small)

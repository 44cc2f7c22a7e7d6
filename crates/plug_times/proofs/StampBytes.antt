-- The bits of a time stamp, by its five bytes.
use Rattle.std.proofs.Common.{◌≡◌, ℕ, ◌+◌, ◌*◌, ◌/◌, ◌%◌, ◌<◌, List, slice_index, arith}
use Rattle.ts_bit_rows.proofs.Fields.{field-in_byte, field-split, field-whole_byte}
use Rattle.plug_times.specs.PesTimes.{stamp_value}

-- three bits, fifteen bits and fifteen bits, of five bytes
pub stamp_value-bytes : (five : List ℕ) → ((k : ℕ) → k < 5 → slice_index five k < 256) → stamp_value five
    ≡ slice_index five 0 / 2 % 8 * 1073741824 + ((slice_index five 1 * 128 + slice_index five 2 / 2) * 32768 + (slice_index five 3 * 128 + slice_index five 4 / 2))
unfolding stamp_value
stamp_value-bytes five byte =
    let high = field-in_byte five 0 4 3 (omega arith) in
    let b1 = field-whole_byte five 1 (byte 1 (omega arith)) in
    let b3 = field-whole_byte five 3 (byte 3 (omega arith)) in
    let b2 = field-in_byte five 2 0 7 (omega arith) in
    let b4 = field-in_byte five 4 0 7 (omega arith) in
    let middle = field-split five 8 8 7 in
    let low = field-split five 24 8 7 in
    omega (arith, byte 2 (omega arith), byte 4 (omega arith))

-- The shifts join the bytes to base and extension.
use Rattle.std.proofs.Common.{◌≡◌, ◌+◌, ◌*◌, ◌%◌, ◌<◌, slice_index, bit_and, bit_or, arith}
use Rattle.std.proofs.lemmas.Nat.{and_mask, or_shifted}
use Rattle.ts_packet.proofs.Clocks.{clock_of-bytes}
use Rattle.ts_packet.proofs.packet.Packet.clock.Goals as goal

pub returns-clause-value : goal.returns-clause-value
returns-clause-value c =
    let row = c.self.inside.row in
    let high = c.from.result in
    let low = c.from-2.result in
    let bit = c.from-3.result in
    let rest = c.from-4.result in
    let is_bit : bit_and (slice_index row 10) 1 ≡ slice_index row 10 % 2 = and_mask (slice_index row 10) 1 in
    let b10 : slice_index row 10 < 256 = c.self.invariant.each_a_byte 10 (omega arith) in
    let b11 : slice_index row 11 < 256 = c.self.invariant.each_a_byte 11 (omega arith) in
    let base_moved : high * 2 % 18446744073709551616 ≡ high * 2 = omega arith in
    let base : bit_or (high * 2) low ≡ high * 2 + low = or_shifted high 1 low (omega arith) in
    let bit_moved : bit * 256 % 18446744073709551616 ≡ bit * 256 = omega arith in
    let extension : bit_or (bit * 256) rest ≡ bit * 256 + rest = or_shifted bit 8 rest (omega arith) in
    let bytes = clock_of-bytes row c.self.invariant in
    rw (base_moved, base, bit_moved, extension, ← c.self.view_is, bytes) (omega arith)

-- The masks and shifts are the digits of base and extension, with the six ones between them.
use Rattle.std.proofs.Common.{◌≡◌, ◌+◌, ◌*◌, ◌/◌, ◌%◌, ◌<◌, bit_and, bit_or, refl, arith}
use Rattle.std.proofs.lemmas.Nat.{and_mask, or_shifted}
use Rattle.ts_packet.proofs.packet.clock.clock_bytes.Goals as goal

pub returns : goal.returns
returns c =
    let base = c.args.base in
    let high = c.args.extension / 256 in
    let bit : bit_and base 1 ≡ base % 2 = and_mask base 1 in
    let moved : base % 2 * 128 % 18446744073709551616 ≡ base % 2 * 128 = omega arith in
    let ones : bit_or (base % 2 * 128) 126 ≡ base % 2 * 128 + 126 = or_shifted (base % 2) 7 126 (omega arith) in
    let small : high < 2 = omega arith in
    let pair : base % 2 * 128 + 126 ≡ (base % 2 * 64 + 63) * 2 = omega arith in
    let last : bit_or ((base % 2 * 64 + 63) * 2) high ≡ (base % 2 * 64 + 63) * 2 + high = or_shifted (base % 2 * 64 + 63) 1 high small in
    let middle : bit_or (base % 2 * 128 + 126) high ≡ base % 2 * 128 + 126 + high = rw pair last in
    rw (bit, moved, ones, middle, and_mask (base / 131072) 8, and_mask (base / 512) 8, and_mask (base / 2) 8, and_mask c.args.extension 8) refl

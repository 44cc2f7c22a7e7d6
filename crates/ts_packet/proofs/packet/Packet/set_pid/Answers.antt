-- The five bits of the first byte and the eight of the second are the 13 bits of the PID.
use Rattle.std.proofs.Common.{◌≡◌, ◌+◌, ◌*◌, ◌/◌, ◌%◌, bit_and, arith}
use Rattle.std.proofs.lemmas.Nat.{and_mask}
use Rattle.ts_bit_rows.proofs.Fields.{SetsField-join}
use Rattle.ts_packet.proofs.packet.Packet.set_pid.Goals as goal

pub returns-clause-field : goal.returns-clause-field
returns-clause-field c =
    let low : bit_and c.args.pid 255 ≡ c.args.pid % 256 = and_mask c.args.pid 8 in
    let whole : c.args.pid / 256 * 256 + bit_and c.args.pid 255 ≡ c.args.pid = omega arith in
    rw whole at (SetsField-join c.args.self.now c.write_bits.new.self c.write_byte.new.self 11 5 8 (c.args.pid / 256) (bit_and c.args.pid 255) c.write_bits.ensures.field c.write_byte.ensures.field)

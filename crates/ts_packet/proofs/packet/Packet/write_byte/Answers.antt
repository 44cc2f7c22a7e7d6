-- A byte that is written is a field of eight bits.
use Rattle.std.proofs.Common.{◌<◌, length, arith}
use Rattle.ts_bit_rows.proofs.Fields.{SetsField-whole_byte}
use Rattle.ts_packet.proofs.packet.Packet.write_byte.Goals as goal

pub returns-clause-field : goal.returns-clause-field
returns-clause-field c =
    let within : c.args.place < length c.self.inside.row = omega arith in
    rw (← c.self.view_is) (SetsField-whole_byte c.self.inside.row c.args.place c.args.value within (omega arith))

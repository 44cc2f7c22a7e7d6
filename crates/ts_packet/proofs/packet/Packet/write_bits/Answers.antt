-- The byte with the bits replaced gives the row with that field set.
use Rattle.std.proofs.Common.{◌<◌, length, arith}
use Rattle.ts_packet.proofs.Bytes.{row_with-sets}
use Rattle.ts_packet.proofs.packet.Packet.write_bits.Goals as goal

pub returns-clause-field : goal.returns-clause-field
returns-clause-field c =
    let within : c.args.place < length c.self.inside.row = omega arith in
    rw (← c.self.view_is, c.with_bits.ensures.exact) (row_with-sets c.self.inside.row c.args.place c.args.first c.args.count c.args.value within c.requires.inside c.requires.fits)

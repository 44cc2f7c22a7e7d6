-- The four bytes that are written and the 184 that are not make the null packet.
use Rattle.ts_packet.proofs.Packets.{null_is_packet}
use Rattle.ts_packet.proofs.packet.Packet.null.Goals as goal

pub invariant_of-result : goal.invariant_of-result
invariant_of-result c = null_is_packet

pub returns-clause-packet : goal.returns-clause-packet
returns-clause-packet c = null_is_packet
